-- The words of a run over a list under rules.
use Rattle.std.specs.Prelude.{ℕ, Bool, false, List, [], ◌∷◌, bytes_eq, codes, Option, Some, None, if◌then◌else◌}
use Rattle.log_runs.specs.declared.list.ListCommand.{ListCommand}
use Rattle.log_runs.specs.declared.list.ListCommand.TheVariants.{Found, File}

-- one word, which is this
abbrev pub are_word : List ℕ → List (List ℕ) → Bool
are_word name [] = false
are_word name (word ∷ []) = bytes_eq word name
are_word name (word ∷ other ∷ words) = false

-- the command that words say: `found` or `file`, alone
abbrev pub command_in : List (List ℕ) → Option ListCommand
command_in words = if are_word (codes "found") words then Some Found else if are_word (codes "file") words then Some File else None
