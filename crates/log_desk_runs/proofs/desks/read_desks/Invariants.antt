use Rattle.std.proofs.Common.{◌≡◌, ◌<◌, ◌≤◌, ℕ, length, get_or}
use Rattle.log_desk_runs.specs.RanDesksOn.{AreRead}
use Rattle.log_desk_runs.proofs.desks.read_desks.Given as goal

abbrev pub invariant-loop-i : goal.invariant-loop-i
invariant-loop-i g l = record {
  read : AreRead g.I.Rows.Rows.left g.I.Rows.Rows.rows_of g.I.DeskSource.reads l.i l.fn.inputs l.inputs l.desks.items;
  behind : (k : ℕ) (i : g.row.I.Denot) → l.i ≤ k → k < length l.fn.inputs → get_or l.inputs k i ≡ get_or l.fn.inputs k i;
  size : length l.inputs ≡ length l.fn.inputs;
}
