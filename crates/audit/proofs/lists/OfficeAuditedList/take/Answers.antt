use Rattle.std.proofs.Common.{◌∙◌, ap, sym, List, ◌∷◌}
use Rattle.std.specs.Prelude.{nat_lt}
use Rattle.aid_filings.specs.declared.filing.Filing.{Filing}
use Rattle.audit.proofs.Taken.{above_zero, admitted_taken, caused, not_above, refused_bad}
use Rattle.audit.proofs.lists.OfficeAuditedList.take.Goals as goal

pub returns-in-Some : goal.returns-in-Some
returns-in-Some c =
    admitted_taken c.args.self.now.history c.admit_with.new.self.history c.args.filing c.requires.legal (sym c.in-Some.ensures.admitted)
    (c.admit_with.ensures.history ∙ ap (λ (past : List Filing). c.args.filing ∷ past) c.in_ok-reserve.ensures.history)

pub returns : goal.returns
returns c =
    let past = c.args.self.now.history in
    let f = c.args.filing in
    caused past _ f _ _ (sym c.why_bad.ensures)
    (refused_bad past _ f (nat_lt 0 c.position.result) (sym c.in_default.ensures.admitted) (above_zero c.position.result _ c.position.ensures) (not_above c.position.result _ c.position.ensures))
