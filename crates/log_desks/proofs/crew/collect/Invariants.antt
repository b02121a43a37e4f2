use Rattle.std.proofs.Common.{◌≡◌, ◌<◌, ◌≤◌, ◌+◌, ℕ, length, get_or, take}
use Rattle.log_desks.specs.Desks.{DeskView, HasEnded, Gathers, all_shown}
use Rattle.log_desks.proofs.crew.collect.Given as goal

abbrev pub invariant-loop-i : goal.invariant-loop-i
invariant-loop-i g l = record {
  gathers : Gathers l.turns.id l.fn.rest.opening l.handle (take l.i l.fn.desks);
  share : l.handle.allowance ≡ l.fn.rest.allowance + l.i;
  ahead : (k : ℕ) (d : DeskView g.row.R-Entry.Denot g.row.L.Denot) → l.i ≤ k → k < length l.desks → HasEnded l.turns.id l.fn.rest.opening (get_or l.desks k d);
  still : (k : ℕ) (d : DeskView g.row.R-Entry.Denot g.row.L.Denot) → l.i ≤ k → get_or l.desks k d ≡ get_or l.fn.desks k d;
  desks : length l.desks ≡ length l.fn.desks;
  shown : all_shown l.desks ≡ all_shown l.fn.desks;
}
