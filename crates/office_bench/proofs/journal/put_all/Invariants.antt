use Rattle.std.proofs.Common.{◌≡◌}
use Rattle.log_journal.specs.Journal.{IsDecided, journal_count}
use Rattle.office_bench.proofs.journal.put_all.Given as goal

abbrev pub invariant-loop : goal.invariant-loop
invariant-loop l = record { decided : IsDecided l.journal; count : journal_count l.journal ≡ l.counter }
