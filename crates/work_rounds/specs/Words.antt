-- The words of a run of the work-study desk. Own format.
use Rattle.std.specs.Prelude.{◌==◌, ℕ, ℤ, pos, unsigned_abs, Bool, false, List, [], ◌∷◌, bytes_eq, codes, Option, Some, None, option_map, if◌then◌else◌, Result, Ok, Err}
use Rattle.std.specs.List.{find}
use Rattle.std.specs.Option.{is_some}
use Rattle.aid_types.specs.Whole.{whole_between, whole_of}
use Rattle.aid_types.specs.declared.text.Malformed.{Malformed}
use Rattle.log_runs.specs.declared.list.ListCommand.{ListCommand}
use Rattle.log_runs.specs.declared.list.ListCommand.TheVariants.{Found, File}
use Rattle.work_rounds.specs.declared.words.RoundRequest.{RoundRequest}

-- a command: `found` or `file`, or a round
pub data WorkCommand : Type 0 where
  OfList : ListCommand → WorkCommand
  OfRound : RoundRequest → WorkCommand

-- one word, which is this
abbrev pub are_word : List ℕ → List (List ℕ) → Bool
are_word name [] = false
are_word name (word ∷ []) = bytes_eq word name
are_word name (word ∷ other ∷ words) = false

-- `found` or `file`, alone
abbrev pub list_in : List (List ℕ) → Option ListCommand
list_in words = if are_word (codes "found") words then Some Found else if are_word (codes "file") words then Some File else None

-- the number that a word spells within bounds
abbrev pub natural : Result ℤ Malformed → Option ℕ
natural (Ok z) = Some (unsigned_abs z)
natural (Err malformed) = None

abbrev pub number_in : ℕ → ℕ → List ℕ → Option ℕ
number_in low high word = natural (whole_between (pos low) (pos high) (whole_of word))

-- the first policy of a school
abbrev pub policy_of : {Policy : Type 0} → List (ℕ × Policy) → ℕ → Option Policy
policy_of policies school = option_map (λ entry. entry.1) (find (λ entry. entry.0 == school) policies)

-- the round of three numbers, where the school has a policy
abbrev pub round_by : {Policy : Type 0} → List (ℕ × Policy) → Option ℕ → Option ℕ → Option ℕ → Option RoundRequest
round_by policies (Some school) (Some year) (Some number) = if is_some (policy_of policies school) then Some (record { school = school; year = year; number = number }) else None
round_by policies _ _ _ = None

-- `round SCHOOL YEAR NUMBER`
abbrev pub round_in : {Policy : Type 0} → List (ℕ × Policy) → List (List ℕ) → Option RoundRequest
round_in policies (word ∷ school ∷ year ∷ number ∷ []) =
    if bytes_eq word (codes "round") then round_by policies (number_in 0 999999 school) (number_in 2000 2099 year) (number_in 1 999999000000 number) else None
round_in policies _ = None

-- a round, where the words are one
abbrev pub or_list : Option RoundRequest → Option ListCommand → Option WorkCommand
or_list (Some round) listed = Some (OfRound round)
or_list None listed = option_map OfList listed

-- the command that words say, by the policies of schools
abbrev pub command_in : {Policy : Type 0} → List (ℕ × Policy) → List (List ℕ) → Option WorkCommand
command_in policies words = or_list (round_in policies words) (list_in words)
