use Rattle.std.proofs.Common.{sym, ap, subst, ◌∙◌}
use Rattle.aid_filings.specs.declared.filing.What.{What}
use Rattle.law_r2t4.specs.declared.Lines.{Lines}
use Rattle.office_answers.proofs.Entries.{own-entry}
use Rattle.office_history.proofs.Lawful.{can_be_worked_out}
use Rattle.office_history.proofs.Own.{entry-own}
use Rattle.office_history.specs.Net.{sheet}
use Rattle.office_history.specs.Own.{IsOwnEntry, of_lines}
use Rattle.office_plain.proofs.plain.PlainHistory.paid_and_taken.Goals as goal

pub sheet-lines-requires-clause-worked_out : goal.sheet-lines-requires-clause-worked_out
sheet-lines-requires-clause-worked_out c =
    can_be_worked_out c.args.self.now c.args.filing.now c.in-Withdraw.facts c.requires.legal.0 c.in-Withdraw.is c.requires.legal.2

pub returns-in-Withdraw-clause-taken : goal.returns-in-Withdraw-clause-taken
returns-in-Withdraw-clause-taken c =
    let past = c.args.self.now in
    let f = c.args.filing.now in
    let moved = of_lines (sheet past f.key c.in-Withdraw.facts) in
    ap (λ (l : Lines). l.returned) c.sheet-lines.ensures
    ∙ (entry-own past f.key f.what c.args.own.now moved c.requires.own
    (subst (λ (what : What). IsOwnEntry past f.key what moved) (sym c.in-Withdraw.is) (own-entry past f.key c.in-Withdraw.facts))).taken
