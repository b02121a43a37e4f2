use Rattle.std.proofs.Common.{ap}
use Rattle.sorted_rows.specs.Seen.{Seen}
use Rattle.sorted_rows.proofs.Placed.{set_at}
use Rattle.sorted_rows.proofs.slots.Slots.set.Goals as goal

pub invariant_of-self : goal.invariant_of-self
invariant_of-self g c =
    let same = ap (λ (t : Seen g.row.K.Denot g.row.V.Denot). t.rows) c.self.view_is in
    ((set_at g.met.K.Ord.total c.self.inside.slots.rows c.self.inside.rows.items c.args.self.now.rows c.args.slot c.index_mut.result.now c.args.value c.self.invariant.0 same c.requires c.index_mut.ensures.value).placed, c.self.invariant.1)

pub returns-clause-values : goal.returns-clause-values
returns-clause-values g c =
    let same = ap (λ (t : Seen g.row.K.Denot g.row.V.Denot). t.rows) c.self.view_is in
    (set_at g.met.K.Ord.total c.self.inside.slots.rows c.self.inside.rows.items c.args.self.now.rows c.args.slot c.index_mut.result.now c.args.value c.self.invariant.0 same c.requires c.index_mut.ensures.value).written

pub returns-clause-stays : goal.returns-clause-stays
returns-clause-stays g c =
    let same = ap (λ (t : Seen g.row.K.Denot g.row.V.Denot). t.rows) c.self.view_is in
    (set_at g.met.K.Ord.total c.self.inside.slots.rows c.self.inside.rows.items c.args.self.now.rows c.args.slot c.index_mut.result.now c.args.value c.self.invariant.0 same c.requires c.index_mut.ensures.value).stays
