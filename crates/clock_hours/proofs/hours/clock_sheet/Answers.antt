use Rattle.std.proofs.Common.{ℕ, List, sym, subst}
use Rattle.aid_types.specs.Ranges.{EachIsCents}
use Rattle.law_r2t4.specs.declared.Lines.{Lines}
use Rattle.clock_hours.proofs.Owed.{owed_cents}
use Rattle.clock_hours.proofs.hours.clock_sheet.Goals as goal

pub returns-clause-owed : goal.returns-clause-owed
returns-clause-owed c =
    let small = subst (λ (net : List ℕ). EachIsCents net) (sym c.new.ensures) c.requires.net in
    subst (λ (lines : Lines). EachIsCents lines.owed) (sym c.worksheet.ensures.lines) (owed_cents c.args.scheduled_hours c.args.period_hours c.args.charges c.new.result c.new-2.result small)
