-- What a build leaves.
use Rattle.std.specs.Prelude.{◌⊎◌, ℕ, List, map}
use Rattle.std.specs.List.{AllByRecursion}
use Rattle.log_journal.specs.Head.{IsForeign}
use Rattle.log_journal.specs.Stands.{StandsFor, IsUnborn}
use Rattle.log_journal.specs.declared.header.Header.{Header}

-- neither a journal of this header stands there, nor one of the version that it names as the one before: to open the file is refused
abbrev pub IsNoJournal : Header → List ℕ → Type 0
IsNoJournal header file = IsUnborn file ⊎ IsForeign header file

-- the file stands for the spellings of all these entries, the oldest first, and each is in its range
pub record IsWhole {Entry : Type 0} (header : Header) (spelling : Entry → List ℕ) (IsEntry : Entry → Type 0) (entries : List Entry) (file : List ℕ) : Type 0 where
  pub stands : StandsFor header file (map spelling entries)
  pub in_range : AllByRecursion IsEntry entries

-- the file is no journal, or has all these entries
abbrev pub NoneOrWhole : {Entry : Type 0} → Header → (Entry → List ℕ) → (Entry → Type 0) → List Entry → List ℕ → Type 0
NoneOrWhole header spelling IsEntry entries file = IsNoJournal header file ⊎ IsWhole header spelling IsEntry entries file
