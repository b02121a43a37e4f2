-- The history that a journal file stands for.
use Rattle.std.specs.Prelude.{ℕ, List}
use Rattle.aid_filings.specs.declared.filing.Filing.{Filing}
use Rattle.log_machine.specs.Recovers as list
use Rattle.office_log.specs.Scheme.{office_scheme}
use Rattle.log_stamps.specs.declared.entry.StampedEntry.{StampedEntry}

-- the file stands for the spellings of this history, and the history is legal
abbrev pub Recovers : List ℕ → List (StampedEntry Filing) → Type 0
Recovers = list.Recovers office_scheme
