use Rattle.std.proofs.Common.{◌≡◌, ◌-◌, ◌≤◌, length, take, drop}
use Rattle.io_traits.specs.DiskState.{IsHonest, IsRead}
use Rattle.log_journal.specs.Piece.{IsPieceOf}
use Rattle.log_journal.proofs.record.read_payload.Given as goal

abbrev pub invariant-loop-done : goal.invariant-loop-done
invariant-loop-done g l = record {
  count : length l.room ≡ l.done;
  within : l.done ≤ l.size;
  honest : (g.D.Disk.tells l.disk).honest ≡ (g.D.Disk.tells l.fn.disk).honest;
  told : IsHonest (g.D.Disk.tells l.fn.disk) → IsRead (g.D.Disk.tells l.fn.disk) (g.D.Disk.tells l.disk);
  piece : IsHonest (g.D.Disk.tells l.fn.disk) → IsPieceOf l.piece (g.D.Disk.tells l.fn.disk).reads;
  bytes : IsHonest (g.D.Disk.tells l.fn.disk) → (l.done ≤ length (drop l.at (g.D.Disk.tells l.fn.disk).reads))
      × (l.room ≡ take l.done (drop l.at (g.D.Disk.tells l.fn.disk).reads));
  unmoved : g.D.Disk.faults l.disk ≡ g.D.Disk.faults l.fn.disk;
}

abbrev pub decreases-loop-done : goal.decreases-loop-done
decreases-loop-done g l = l.size - l.done
