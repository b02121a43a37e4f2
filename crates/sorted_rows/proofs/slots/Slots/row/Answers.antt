use Rattle.std.proofs.Common.{ap}
use Rattle.sorted_rows.specs.Seen.{Seen}
use Rattle.sorted_rows.proofs.Placed.{own_value}
use Rattle.sorted_rows.proofs.slots.Slots.row.Goals as goal

pub returns-clause-own : goal.returns-clause-own
returns-clause-own g c =
    own_value g.met.K.Ord.total c.self.inside.slots.rows c.self.inside.rows.items c.args.self.now.rows c.args.slot c.index.result.now c.self.invariant.0 (ap (λ (t : Seen g.row.K.Denot g.row.V.Denot). t.rows) c.self.view_is) c.requires c.index.ensures
