-- Where a journal file is no office's.
use Rattle.std.specs.Prelude.{ℕ, List}
use Rattle.log_machine.specs.Faulty as list
use Rattle.office_log.specs.Scheme.{office_scheme}

-- the first record of the file that isn't one of a legal history has its gate at this place
abbrev pub IsFaultyAt : List ℕ → ℕ → Type 0
IsFaultyAt = list.IsFaultyAt office_scheme
