use Rattle.std.proofs.Common.{◌≡◌, ◌≤◌, ◌<◌, ◌+◌, ◌-◌, ◌^◌, None, length}
use Rattle.io_traits.specs.DiskState.{IsHonest, IsRead}
use Rattle.log_journal.specs.Opening.{opening_disk, opening_count, opening_refusal}
use Rattle.log_machine.specs.Reading.{HasRead}
use Rattle.log_machine.proofs.reading.read_all.Given as goal

abbrev pub invariant-loop : goal.invariant-loop
invariant-loop g l = record {
  open_still : opening_refusal l.opening ≡ None;
  legal : g.R.StateMachine.scheme.IsLegal (g.R.StateMachine.history l.machine);
  range : g.R.StateMachine.spare l.machine < 2 ^ 32;
  count : opening_count l.opening ≡ length (g.R.StateMachine.history l.machine);
  honest : (g.D.Disk.tells (opening_disk l.opening)).honest ≡ (g.D.Disk.tells (opening_disk l.initial.opening)).honest;
  told : IsHonest (g.D.Disk.tells (opening_disk l.initial.opening)) → IsRead (g.D.Disk.tells (opening_disk l.initial.opening)) (g.D.Disk.tells (opening_disk l.opening));
  read : IsHonest (g.D.Disk.tells (opening_disk l.initial.opening)) → HasRead g.D.Disk g.R.StateMachine.scheme l.opening (g.R.StateMachine.history l.machine);
  unmoved : g.D.Disk.faults (opening_disk l.opening) ≡ g.D.Disk.faults (opening_disk l.initial.opening);
  later : g.D.Disk.faults (opening_disk l.initial.opening) ≤ g.D.Disk.faults (opening_disk l.opening);
}

abbrev pub decreases-loop : goal.decreases-loop
decreases-loop g l = 2 ^ 63 + 8198 - opening_count l.opening
