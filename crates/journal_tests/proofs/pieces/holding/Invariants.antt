use Rattle.std.proofs.Common.{◌≡◌}
use Rattle.io_traits.specs.DiskState.{IsHonest}
use Rattle.log_journal.specs.Stands.{Payloads}
use Rattle.log_journal.specs.Journal.{Keeps, IsDecided, journal_disk, journal_count}
use Rattle.log_journal.specs.declared.header.Header.{Header}
use Rattle.journal_tests.proofs.pieces.holding.Given as goal

abbrev pub invariant-loop-payload : goal.invariant-loop-payload
invariant-loop-payload g l = record {
  stands : IsHonest (g.D.Disk.tells (journal_disk l.journal)) → (header : Header) × ((before : Payloads) × Keeps g.D.Disk header l.journal before);
  decided : IsDecided l.journal;
  count : journal_count l.journal ≡ l.payload-index;
}
