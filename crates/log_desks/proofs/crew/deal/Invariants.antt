use Rattle.std.proofs.Common.{◌≡◌, ◌<◌, ◌≤◌, ◌+◌, ℕ, length, get_or}
use Rattle.log_desks.specs.declared.stop.DeskEnd.TheVariants.{Open}
use Rattle.log_desks.specs.Desks.{DeskView, IsFresh, IsReady, all_shown}
use Rattle.log_desks.proofs.crew.deal.Given as goal

abbrev pub invariant-loop-i : goal.invariant-loop-i
invariant-loop-i g l = record {
  fresh : IsFresh l.turns.id l.fn.first.opening l.handle;
  opening : l.handle.opening ≡ l.fn.first.opening;
  share : l.handle.allowance + l.i ≡ l.fn.first.allowance;
  ready : (k : ℕ) (d : DeskView g.row.R-Entry.Denot g.row.L.Denot) → k < l.i → IsReady l.turns.id l.fn.first.opening (get_or l.desks k d);
  ahead : (k : ℕ) (d : DeskView g.row.R-Entry.Denot g.row.L.Denot) → l.i ≤ k → k < length l.desks → (get_or l.desks k d).ended ≡ Open;
  desks : length l.desks ≡ length l.fn.desks;
  shown : all_shown l.desks ≡ all_shown l.fn.desks;
}
