use Rattle.std.proofs.Common.{◌≡◌, ◌≤◌, ◌+◌, ℕ, length, get_or}
use Rattle.log_desks.specs.Desks.{IsFresh}
use Rattle.web_workers.specs.Workers.{WorkerView, AreReady}
use Rattle.web_workers.proofs.crew.deal.Given as goal

abbrev pub invariant-loop-i : goal.invariant-loop-i
invariant-loop-i g l = record {
  fresh : IsFresh l.turns.id l.fn.first.opening l.handle;
  opening : l.handle.opening ≡ l.fn.first.opening;
  share : l.handle.allowance + l.i ≡ l.fn.first.allowance;
  room : l.handle.room ≡ l.fn.first.room;
  ready : AreReady l.turns.id l.fn.first.opening l.i l.fn.workers l.workers;
  still : (k : ℕ) (d : WorkerView g.row.R-Entry.Denot g.row.P.Denot) → l.i ≤ k → get_or l.workers k d ≡ get_or l.fn.workers k d;
  workers : length l.workers ≡ length l.fn.workers;
}
