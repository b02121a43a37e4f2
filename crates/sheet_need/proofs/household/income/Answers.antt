use Rattle.std.proofs.Common.{rules, refl, FitsSigned, w64}
use Rattle.sheet_need.proofs.NeedPieces.{amount_is, entries_are, signed_is, worked_is}
use Rattle.sheet_need.specs.declared.entry.Label.TheVariants.{Agi, Ira, Interest, IraUntaxed, Pension, Foreign, Grants, Credits, WorkStudy, TotalIncome}
use Rattle.sheet_need.specs.declared.entry.Mark.TheVariants.{Blank, Equals, Plus, Minus}
use Rattle.sheet_need.proofs.household.income.Goals as goal

pub returns : goal.returns
returns c =
    let s = c.args.side.now in
    let l = c.args.lines.now in
    let total : FitsSigned w64 l.total = search rules in
    entries_are _ _ _ _ (signed_is Blank Agi s.agi _ s.in_range.0 c.amount.ensures)
    (entries_are _ _ _ _ (amount_is Plus Ira s.ira _ s.in_range.1 c.amount-2.ensures)
    (entries_are _ _ _ _ (amount_is Plus Interest s.interest _ s.in_range.2 c.amount-3.ensures)
    (entries_are _ _ _ _ (amount_is Plus IraUntaxed s.ira_untaxed _ s.in_range.3 c.amount-4.ensures)
    (entries_are _ _ _ _ (amount_is Plus Pension s.pension _ s.in_range.4 c.amount-5.ensures)
    (entries_are _ _ _ _ (amount_is Plus Foreign s.foreign _ s.in_range.5 c.amount-6.ensures)
    (entries_are _ _ _ _ (amount_is Minus Grants s.grants _ s.in_range.6 c.amount-7.ensures)
    (entries_are _ _ _ _ (amount_is Minus Credits s.credits _ s.in_range.7 c.amount-8.ensures)
    (entries_are _ _ _ _ (amount_is Minus WorkStudy s.work_study _ s.in_range.8 c.amount-9.ensures)
    (entries_are _ _ _ _ (worked_is Equals TotalIncome l.total _ total c.worked.ensures)
    refl)))))))))
