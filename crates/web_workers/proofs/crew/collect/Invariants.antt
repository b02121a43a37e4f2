use Rattle.std.proofs.Common.{◌≡◌, ◌<◌, ◌≤◌, ◌+◌, ℕ, length, get_or, take}
use Rattle.web_workers.specs.Workers.{WorkerView, HasEnded, Gathers, all_shown}
use Rattle.web_workers.proofs.crew.collect.Given as goal

abbrev pub invariant-loop-i : goal.invariant-loop-i
invariant-loop-i g l = record {
  gathers : Gathers l.turns.id l.fn.rest.opening l.handle (take l.i l.fn.workers);
  share : l.handle.allowance ≡ l.fn.rest.allowance + l.i;
  room : l.handle.room ≡ l.fn.rest.room;
  ahead : (k : ℕ) (d : WorkerView g.row.R-Entry.Denot g.row.P.Denot) → l.i ≤ k → k < length l.workers → HasEnded l.turns.id l.fn.rest.opening (get_or l.workers k d);
  still : (k : ℕ) (d : WorkerView g.row.R-Entry.Denot g.row.P.Denot) → l.i ≤ k → get_or l.workers k d ≡ get_or l.fn.workers k d;
  workers : length l.workers ≡ length l.fn.workers;
  shown : all_shown l.workers ≡ all_shown l.fn.workers;
}
