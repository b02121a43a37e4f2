use Rattle.std.proofs.Common.{◌≡◌, ◌++◌, ◌∷◌, List, reverse, sym, ap, subst, ◌∙◌}
use Rattle.aid_filings.specs.declared.filing.Filing.{Filing}
use Rattle.aid_filings.specs.declared.filing.What.{What}
use Rattle.aid_filings.specs.declared.filing.What.TheVariants.{Withdraw}
use Rattle.office_history.specs.Answer.{IsLegal}
use Rattle.office_history.specs.Net.{days_of, last_of}
use Rattle.office_history.specs.Past.{the_term}
use Rattle.office_history.proofs.Oldest.{reverse-middle}
use Rattle.sheet_r2t4.specs.ReturnEntries.{nets_of}
use Rattle.sheet_r2t4.specs.ReturnSums.{IsEven}
use Rattle.sheet_r2t4.proofs.ReturnSums.{even, split}
use Rattle.sheet_r2t4.proofs.laws.worksheet_adds_up.Goals as goal

pub returns-clause-split : goal.returns-clause-split
returns-clause-split c w is =
    let past = reverse c.args.before.now in
    let key = c.args.filing.now.key in
    let term = the_term past key.school w.year w.term in
    split (days_of term w.last) (days_of term (last_of term)) w.charges (nets_of past key w) w.could

pub returns-clause-even : goal.returns-clause-even
returns-clause-even c w program is =
    let past = reverse c.args.before.now in
    let newer = reverse c.args.after.now in
    let key = c.args.filing.now.key in
    let same : newer ++ record { key = key; what = Withdraw w } ∷ past ≡ reverse (c.args.before.now ++ c.args.filing.now ∷ c.args.after.now) =
    ap (λ (what : What). newer ++ record { key = key; what = what } ∷ past) (sym is) ∙ sym (reverse-middle c.args.before.now c.args.after.now c.args.filing.now) in
    subst (λ (now : List Filing). IsEven past now key w program) same (even past key w program newer (subst (λ (now : List Filing). IsLegal now) (sym same) c.requires))
