use Rattle.std.proofs.Common.{◌≡◌, true, subst}
use Rattle.aid_filings.specs.declared.filing.Filing.{Filing}
use Rattle.office_history.specs.Past.{same_filing}
use Rattle.aid_filings.proofs.SameFiling.{tells_filing}
use Rattle.office_history.proofs.laws.same_is_equal.Goals as goal

pub returns : goal.returns
returns c =
    let f = c.args.filing.now in
    let g = c.args.other.now in
    (λ h. tells_filing.same f g h, λ e. subst (λ (x : Filing). same_filing f x ≡ true) e (tells_filing.told f))
