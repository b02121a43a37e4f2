use Rattle.std.proofs.Common.{rules, ℤ, refl, ap, ◌∙◌, FitsSigned, w64}
use Rattle.std.proofs.lemmas.Int.{to_z-of_z}
use Rattle.sheet_need.specs.NeedEntries.{from_assets}
use Rattle.sheet_need.proofs.NeedPieces.{amount_is, entries_are, worked_is}
use Rattle.sheet_need.specs.declared.entry.Label.TheVariants.{Cash, Investments, Business, NetWorth}
use Rattle.sheet_need.specs.declared.entry.Mark.TheVariants.{Blank, Equals, Plus}
use Rattle.sheet_need.proofs.household.dependent_assets.Goals as goal

pub returns : goal.returns
returns c =
    let s = c.args.side.now in
    let l = c.args.lines.now in
    let worth : FitsSigned w64 l.worth = search rules in
    let taken = c.from_assets.ensures ∙ ap (λ (r : ℤ). from_assets r l) (to_z-of_z w64 c.args.rate c.ranges.rate) in
    entries_are _ _ _ _ (amount_is Blank Cash s.cash _ s.in_range.13 c.amount.ensures)
    (entries_are _ _ _ _ (amount_is Plus Investments s.investments _ s.in_range.14 c.amount-2.ensures)
    (entries_are _ _ _ _ (amount_is Plus Business s.business _ s.in_range.15 c.amount-3.ensures)
    (entries_are _ _ _ _ (worked_is Equals NetWorth l.worth _ worth c.worked.ensures)
    (entries_are _ _ _ _ taken refl))))
