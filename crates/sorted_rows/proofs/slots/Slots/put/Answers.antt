use Rattle.std.proofs.Common.{◌≡◌, List, Some, None, arith, ap, subst, sym, ◌∙◌}
use Rattle.std.specs.BTreeMap.{is_at}
use Rattle.std.specs.Map.{lookup}
use Rattle.std.proofs.lemmas.Cmp.{tied_itself}
use Rattle.sorted_rows.specs.Places.{ArePlaced, AreStaying, IsHere, value_at}
use Rattle.sorted_rows.specs.Seen.{Seen}
use Rattle.sorted_rows.proofs.Placed.{no_value, there_last, stay_pushed, written_pushed, written_at_slot, here_stays, row_of, value_at_slot, known, unknown}
use Rattle.sorted_rows.proofs.slots.Slots.put.Goals as goal

pub add-requires-clause-new : goal.add-requires-clause-new
add-requires-clause-new g c =
    let placed : ArePlaced g.K.Ord.cmp c.self.inside.slots.rows c.args.self.now.rows = subst (λ (t : Seen g.row.K.Denot g.row.V.Denot). ArePlaced g.K.Ord.cmp c.self.inside.slots.rows t.rows) c.self.view_is c.self.invariant.0 in
    no_value g.met.K.Ord.total c.args.key c.self.inside.slots.rows c.args.self.now.rows placed (sym c.in-None.ensures)

pub add-requires-clause-room : goal.add-requires-clause-room
add-requires-clause-room g c =
    let placed : ArePlaced g.K.Ord.cmp c.self.inside.slots.rows c.args.self.now.rows = subst (λ (t : Seen g.row.K.Denot g.row.V.Denot). ArePlaced g.K.Ord.cmp c.self.inside.slots.rows t.rows) c.self.view_is c.self.invariant.0 in
    c.requires.room (no_value g.met.K.Ord.total c.args.key c.self.inside.slots.rows c.args.self.now.rows placed (sym c.in-None.ensures))

pub returns-in-Some-clause-values : goal.returns-in-Some-clause-values
returns-in-Some-clause-values g c =
    let placed : ArePlaced g.K.Ord.cmp c.self.inside.slots.rows c.args.self.now.rows = subst (λ (t : Seen g.row.K.Denot g.row.V.Denot). ArePlaced g.K.Ord.cmp c.self.inside.slots.rows t.rows) c.self.view_is c.self.invariant.0 in
    let here : IsHere g.K.Ord.cmp c.args.key c.args.self.now.rows c.in-Some.slot = placed.here c.args.key c.in-Some.slot (sym c.in-Some.ensures) in
    written_at_slot g.met.K.Ord.total c.args.key c.args.value c.args.self.now.rows c.set.new.self.rows c.in-Some.slot here c.set.ensures.values

pub returns-in-Some-clause-slot : goal.returns-in-Some-clause-slot
returns-in-Some-clause-slot g c =
    let placed : ArePlaced g.K.Ord.cmp c.self.inside.slots.rows c.args.self.now.rows = subst (λ (t : Seen g.row.K.Denot g.row.V.Denot). ArePlaced g.K.Ord.cmp c.self.inside.slots.rows t.rows) c.self.view_is c.self.invariant.0 in
    let here : IsHere g.K.Ord.cmp c.args.key c.args.self.now.rows c.in-Some.slot = placed.here c.args.key c.in-Some.slot (sym c.in-Some.ensures) in
    here_stays g.met.K.Ord.total c.args.key c.args.self.now.rows c.set.new.self.rows c.in-Some.slot here c.set.ensures.stays c.set.ensures.count

pub returns-in-Some-clause-room : goal.returns-in-Some-clause-room
returns-in-Some-clause-room g c =
    let placed : ArePlaced g.K.Ord.cmp c.self.inside.slots.rows c.args.self.now.rows = subst (λ (t : Seen g.row.K.Denot g.row.V.Denot). ArePlaced g.K.Ord.cmp c.self.inside.slots.rows t.rows) c.self.view_is c.self.invariant.0 in
    let here : IsHere g.K.Ord.cmp c.args.key c.args.self.now.rows c.in-Some.slot = placed.here c.args.key c.in-Some.slot (sym c.in-Some.ensures) in
    let row = row_of c.args.self.now.rows c.in-Some.slot here.in_range in
    let old : value_at g.K.Ord.cmp c.args.key c.args.self.now.rows ≡ Some row.0.1 = value_at_slot g.met.K.Ord.total c.args.key c.self.inside.slots.rows c.args.self.now.rows c.in-Some.slot row.0 placed (sym c.in-Some.ensures) row.1 in
    omega (arith, known (value_at g.K.Ord.cmp c.args.key c.args.self.now.rows) row.0.1 old, c.set.ensures.room)

pub returns-in-None-clause-values : goal.returns-in-None-clause-values
returns-in-None-clause-values g c = λ q.
    let placed : ArePlaced g.K.Ord.cmp c.self.inside.slots.rows c.args.self.now.rows = subst (λ (t : Seen g.row.K.Denot g.row.V.Denot). ArePlaced g.K.Ord.cmp c.self.inside.slots.rows t.rows) c.self.view_is c.self.invariant.0 in
    let none : value_at g.K.Ord.cmp c.args.key c.args.self.now.rows ≡ None = no_value g.met.K.Ord.total c.args.key c.self.inside.slots.rows c.args.self.now.rows placed (sym c.in-None.ensures) in
    ap (lookup (is_at (g.K.Ord.cmp q))) c.add.ensures.rows ∙ written_pushed g.met.K.Ord.total c.args.key c.args.value c.args.self.now.rows none q

pub returns-in-None-clause-slot : goal.returns-in-None-clause-slot
returns-in-None-clause-slot g c =
    subst (λ (xs : List (g.row.K.Denot × g.row.V.Denot)). IsHere g.K.Ord.cmp c.args.key xs c.add.result) (sym c.add.ensures.rows)
    (there_last g.met.K.Ord.total c.args.key c.args.value c.args.self.now.rows c.args.key c.add.result (tied_itself g.met.K.Ord.total c.args.key) c.add.ensures.slot)

pub returns-in-None-clause-stays : goal.returns-in-None-clause-stays
returns-in-None-clause-stays g c =
    subst (λ (xs : List (g.row.K.Denot × g.row.V.Denot)). AreStaying c.args.self.now.rows xs) (sym c.add.ensures.rows)
    (stay_pushed c.args.self.now.rows (c.args.key, c.args.value))

pub returns-in-None-clause-room : goal.returns-in-None-clause-room
returns-in-None-clause-room g c =
    let placed : ArePlaced g.K.Ord.cmp c.self.inside.slots.rows c.args.self.now.rows = subst (λ (t : Seen g.row.K.Denot g.row.V.Denot). ArePlaced g.K.Ord.cmp c.self.inside.slots.rows t.rows) c.self.view_is c.self.invariant.0 in
    let none : value_at g.K.Ord.cmp c.args.key c.args.self.now.rows ≡ None = no_value g.met.K.Ord.total c.args.key c.self.inside.slots.rows c.args.self.now.rows placed (sym c.in-None.ensures) in
    omega (arith, unknown (value_at g.K.Ord.cmp c.args.key c.args.self.now.rows) none, c.add.ensures.room)
