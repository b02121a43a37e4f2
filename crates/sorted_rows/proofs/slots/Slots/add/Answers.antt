use Rattle.std.proofs.Common.{◌≡◌, ◌<◌, ◌++◌, [], ◌∷◌, List, None, IsOk, cond, arith, ap, subst, sym, ◌∙◌}
use Rattle.sorted_rows.specs.Places.{ArePlaced, value_at}
use Rattle.sorted_rows.specs.Seen.{Seen}
use Rattle.sorted_rows.proofs.Placed.{no_slot, placed_pushed}
use Rattle.sorted_rows.proofs.slots.Slots.add.Goals as goal

pub add-requires-clause-new : goal.add-requires-clause-new
add-requires-clause-new g c =
    let rows = c.self.inside.rows.items in
    let new : value_at g.K.Ord.cmp c.args.key rows ≡ None = subst (λ (t : Seen g.row.K.Denot g.row.V.Denot). value_at g.K.Ord.cmp c.args.key t.rows ≡ None) (sym c.self.view_is) c.requires.new in
    no_slot g.met.K.Ord.total c.args.key c.self.inside.slots.rows rows c.self.invariant.0 new

pub invariant_of-self : goal.invariant_of-self
invariant_of-self g c =
    let slots = c.self.inside.slots.rows in
    let rows = c.self.inside.rows.items in
    let new : value_at g.K.Ord.cmp c.args.key rows ≡ None = subst (λ (t : Seen g.row.K.Denot g.row.V.Denot). value_at g.K.Ord.cmp c.args.key t.rows ≡ None) (sym c.self.view_is) c.requires.new in
    let none : value_at g.K.Ord.cmp c.args.key slots ≡ None = no_slot g.met.K.Ord.total c.args.key slots rows c.self.invariant.0 new in
    let room = ap (λ (t : Seen g.row.K.Denot g.row.V.Denot). t.room) c.self.view_is in
    let fits : c.self.inside.rows.len < c.self.inside.rows.cap = omega (arith, c.self.invariant.1, c.requires.room) in
    let ok : IsOk c.push.result = c.push.ensures.succeeds fits in
    let pushed : c.push.new.self.items ≡ rows ++ (c.args.key, c.args.value) ∷ [] = c.push.ensures.items ∙ ap (λ b. cond b (rows ++ (c.args.key, c.args.value) ∷ []) rows) ok in (
      subst (λ (xs : List (g.row.K.Denot × g.row.V.Denot)). ArePlaced g.K.Ord.cmp c.add.new.self.rows xs) (sym pushed)
          (placed_pushed g.met.K.Ord.total c.args.key c.args.value slots c.add.new.self.rows rows c.len-slot.result c.self.invariant.0 none (omega arith) c.add.ensures.values c.add.ensures.count),
      omega (arith, c.add.ensures.room, c.self.invariant.1, c.push.ensures.upper_bound, c.push.ensures.capacity),
    )
