use Rattle.std.proofs.Common.{ap, subst, sym, ◌∙◌}
use Rattle.std.specs.Option.{option_copied}
use Rattle.sorted_rows.specs.Places.{ArePlaced}
use Rattle.sorted_rows.specs.Seen.{Seen}
use Rattle.sorted_rows.proofs.Placed.{no_value, value_at_slot}
use Rattle.sorted_rows.proofs.slots.Slots.at.Goals as goal

pub returns-in_err-slot : goal.returns-in_err-slot
returns-in_err-slot g c =
    let placed : ArePlaced g.K.Ord.cmp c.self.inside.slots.rows c.args.self.now.rows = subst (λ (t : Seen g.row.K.Denot g.row.V.Denot). ArePlaced g.K.Ord.cmp c.self.inside.slots.rows t.rows) c.self.view_is c.self.invariant.0 in
    ap option_copied c.from_residual.ensures ∙ sym (no_value g.met.K.Ord.total c.args.key.now c.self.inside.slots.rows c.args.self.now.rows placed (sym c.in_err-slot.ensures))

pub returns : goal.returns
returns g c =
    let placed : ArePlaced g.K.Ord.cmp c.self.inside.slots.rows c.args.self.now.rows = subst (λ (t : Seen g.row.K.Denot g.row.V.Denot). ArePlaced g.K.Ord.cmp c.self.inside.slots.rows t.rows) c.self.view_is c.self.invariant.0 in
    sym (value_at_slot g.met.K.Ord.total c.args.key.now c.self.inside.slots.rows c.args.self.now.rows c.in_ok-slot.slot c.row.result.now placed (sym c.in_ok-slot.ensures) c.row.ensures.here)
