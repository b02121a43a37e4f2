use Rattle.std.proofs.Common.{◌≡◌, ◌+◌, ◌*◌, ◌≤◌, length}
use Rattle.io_traits.specs.DiskState.{EachImage, EachMoment, IsHonest}
use Rattle.log_builds.specs.Laid.{HasLaid, IsShut}
use Rattle.log_builds.proofs.records.write_records.Given as goal

abbrev pub invariant-loop-room : goal.invariant-loop-room
invariant-loop-room g l = record {
  near : l.place + 8197 * length (g.E.Entries.left l.entries) ≤ 16 + 8197 * length (g.E.Entries.left l.fn.entries);
  honest : (g.D.Disk.tells l.disk).honest ≡ (g.D.Disk.tells l.fn.disk).honest;
  laid : IsHonest (g.D.Disk.tells l.fn.disk)
      → HasLaid l.fn.header g.E.Entries.spelling g.E.Entries.IsEntry (g.E.Entries.left l.fn.entries) (g.E.Entries.left l.entries) l.place (g.D.Disk.tells l.disk).reads;
  shut : IsHonest (g.D.Disk.tells l.fn.disk) → EachImage (g.D.Disk.tells l.disk) IsShut;
  moments : IsHonest (g.D.Disk.tells l.fn.disk) → EachMoment (g.D.Disk.tells l.fn.disk) (g.D.Disk.tells l.disk) IsShut;
  unmoved : g.D.Disk.faults l.disk ≡ g.D.Disk.faults l.fn.disk;
}

abbrev pub decreases-loop-room : goal.decreases-loop-room
decreases-loop-room g l = length (g.E.Entries.left l.entries)
