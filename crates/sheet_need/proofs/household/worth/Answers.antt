use Rattle.std.proofs.Common.{rules, refl, FitsSigned, w64}
use Rattle.sheet_need.proofs.NeedPieces.{amount_is, entries_are, worked_is}
use Rattle.sheet_need.specs.declared.entry.Label.TheVariants.{Support, Cash, Investments, NetWorth}
use Rattle.sheet_need.specs.declared.entry.Mark.TheVariants.{Blank, Equals, Plus}
use Rattle.sheet_need.proofs.household.worth.Goals as goal

pub returns : goal.returns
returns c =
    let s = c.args.side.now in
    let l = c.args.lines.now in
    let worth : FitsSigned w64 l.worth = search rules in
    entries_are _ _ _ _ (amount_is Blank Support s.support _ s.in_range.12 c.amount.ensures)
    (entries_are _ _ _ _ (amount_is Plus Cash s.cash _ s.in_range.13 c.amount-2.ensures)
    (entries_are _ _ _ _ (amount_is Plus Investments s.investments _ s.in_range.14 c.amount-3.ensures)
    (entries_are _ _ _ _ (c.adjusted_business.ensures)
    (entries_are _ _ _ _ (worked_is Equals NetWorth l.worth _ worth c.worked.ensures)
    refl))))
