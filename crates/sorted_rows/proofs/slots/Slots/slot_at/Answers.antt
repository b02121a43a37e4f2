use Rattle.std.proofs.Common.{subst, sym, ◌∙◌}
use Rattle.sorted_rows.specs.Places.{ArePlaced}
use Rattle.sorted_rows.specs.Seen.{Seen}
use Rattle.sorted_rows.proofs.Placed.{no_slot, no_value}
use Rattle.sorted_rows.proofs.slots.Slots.slot_at.Goals as goal

pub returns-clause-none : goal.returns-clause-none
returns-clause-none g c =
    let placed : ArePlaced g.K.Ord.cmp c.self.inside.slots.rows c.args.self.now.rows = subst (λ (t : Seen g.row.K.Denot g.row.V.Denot). ArePlaced g.K.Ord.cmp c.self.inside.slots.rows t.rows) c.self.view_is c.self.invariant.0 in (
      λ none. no_value g.met.K.Ord.total c.args.key.now c.self.inside.slots.rows c.args.self.now.rows placed (sym c.at.ensures ∙ none),
      λ none. c.at.ensures ∙ no_slot g.met.K.Ord.total c.args.key.now c.self.inside.slots.rows c.args.self.now.rows placed none,
    )
