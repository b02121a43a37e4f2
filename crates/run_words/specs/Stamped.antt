-- Rows of words behind a stamp. Own format.
use Rattle.std.specs.Prelude.{◌≡◌, ◌≤◌, ℕ, Bool, false, IsTrue, List, [], ◌∷◌, codes, decimal, length}
use Rattle.std.specs.Str.{bytes_eq}
use Rattle.law_terms.specs.DayText.{IsDayText}
use Rattle.aid_types.specs.Ranges.{IsBetween}
use Rattle.aid_stamps.specs.Clerks.{IsClerk}
use Rattle.aid_stamps.specs.Stamps.{plain_stamp}
use Rattle.aid_stamps.specs.declared.stamp.Stamp.{Stamp}
use Rattle.run_words.specs.Words.{AreDesks, AreServe, IsRow, begins_with_hyphen}
use Rattle.run_words.specs.declared.command.Command.{Command}

-- the first word is `at`
abbrev pub begins_with_at : List (List ℕ) → Bool
begins_with_at [] = false
begins_with_at (first ∷ behind) = bytes_eq first (codes "at")

-- the words are these behind their stamp: that which `at`, a day and a clerk say in front of them, or the plain one where
-- they don't begin so
pub data IsStamped (words : List (List ℕ)) : Stamp → List (List ℕ) → Type 0 where
  plain : begins_with_at words ≡ false → IsStamped words plain_stamp words
  said : (stamp : Stamp) (day : List ℕ) (rest : List (List ℕ)) → IsDayText day stamp.day → IsClerk stamp.clerk → 1 ≤ length stamp.clerk
      → words ≡ codes "at" ∷ day ∷ stamp.clerk ∷ rest → IsStamped words stamp rest

-- the words are the row of a command behind a stamp
abbrev pub IsStampedRow : List (List ℕ) → List (List ℕ) → Stamp → Command → Type 0
IsStampedRow names words stamp command = (rest : List (List ℕ)) × IsStamped words stamp rest × IsRow names rest command

-- the words are `desks` and so many files behind a stamp
abbrev pub AreStampedDesks : List (List ℕ) → ℕ → Stamp → Type 0
AreStampedDesks words files stamp = (rest : List (List ℕ)) × IsStamped words stamp rest × AreDesks rest files

-- the words are those of a server behind a stamp
abbrev pub AreStampedServe : List (List ℕ) → ℕ → ℕ → ℕ → Stamp → Type 0
AreStampedServe words port workers sessions stamp = (rest : List (List ℕ)) × IsStamped words stamp rest × AreServe rest port workers sessions

-- the words are `amend`, this file, which doesn't begin with a hyphen, and this number, 1 to 999,000,000,000
abbrev pub IsAmendRow : List (List ℕ) → List ℕ → ℕ → Type 0
IsAmendRow words file number = (words ≡ codes "amend" ∷ file ∷ decimal number ∷ []) × (begins_with_hyphen file ≡ false) × IsBetween 1 999000000000 number

-- the words are this row behind the stamp that `at` says in front of them
abbrev pub IsAmend : List (List ℕ) → Stamp → List ℕ → ℕ → Type 0
IsAmend words stamp file number = IsTrue (begins_with_at words) × (rest : List (List ℕ)) × IsStamped words stamp rest × IsAmendRow rest file number
