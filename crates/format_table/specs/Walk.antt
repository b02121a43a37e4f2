-- The numbers of a filing's fields, read one after the other from a source: bytes, the texts of a row, the members of a body.
use Rattle.std.specs.Prelude.{ℕ, zero, suc, ℤ, if◌then◌else◌, List, [], ◌∷◌, length, Option, Some, None, Result, Ok, Err, reverse}
use Rattle.format_table.specs.Draft.{Progress}
use Rattle.format_table.specs.Forms.{most_numbers}
use Rattle.format_table.specs.Layout.{after}
use Rattle.format_table.specs.Limits.{fits}
use Rattle.format_table.specs.Parts.{Line, Slot}

-- a number that a source has, and what it has behind that
pub record Found (S : Type 0) : Type 0 where
  pub number : ℤ
  pub rest : S

-- What a source has for a field behind so many numbers, or why it has no number; why one past its limit is none there; and
-- what is wrong with what it still has behind the last number, if anything.
pub record Source (S E : Type 0) : Type 0 where
  pub find : ℕ → Line → S → Result (Found S) E
  pub past : ℕ → S → E
  pub left : S → Option E

-- what comes of a value, where there is one; an error stays
abbrev pub and_then : {A B E : Type 0} → Result A E → (A → Result B E) → Result B E
and_then (Ok x) more = more x
and_then (Err e) more = Err e

-- a number, and behind it others that are read
abbrev pub number_first : {E : Type 0} → ℤ → Result (List ℤ) E → Result (List ℤ) E
number_first z others = and_then others (λ zs. Ok (z ∷ zs))

-- no numbers, where nothing is wrong with what is left
abbrev pub nothing_left : {E : Type 0} → Option E → Result (List ℤ) E
nothing_left None = Ok []
nothing_left (Some e) = Err e

-- The numbers of all fields that are to come, each within its limit after the numbers before it, newest first; or what is wrong
-- first. At most so many are read: one more is past its limit.
unfoldable pub numbers_from : {S E : Type 0} → Source S E → ℕ → List Slot → List ℤ → S → Result (List ℤ) E
numbers_from source most [] earlier s = nothing_left (source.left s)
numbers_from source zero (slot ∷ slots) earlier s = Err (source.past (length earlier) s)
numbers_from source (suc most) (slot ∷ slots) earlier s =
    and_then (source.find (length earlier) slot.line s) (λ found. if fits slot.line.limit earlier found.number
    then number_first found.number (numbers_from source most (after (slot ∷ slots) found.number) (found.number ∷ earlier) found.rest)
    else Err (source.past (length earlier) s))

-- the numbers of all of these fields, which are never more than the most that an entry has
abbrev pub numbers_of_slots : {S E : Type 0} → Source S E → List Slot → S → Result (List ℤ) E
numbers_of_slots source slots s = numbers_from source most_numbers slots [] s

-- the numbers of a draft, the oldest first
abbrev pub numbers_drafted : {E : Type 0} → Result Progress E → Result (List ℤ) E
numbers_drafted (Ok draft) = Ok (reverse draft.earlier)
numbers_drafted (Err e) = Err e
