-- The place of a fault is one of the bytes, or the one behind them.
use Rattle.std.proofs.Common.{◌≡◌, ℕ, zero, suc, ◌+◌, ◌≤◌, inl, inr, ℤ, Bool, true, false, List, [], ◌∷◌, length, drop, Option, Some, None, Result, Ok, Err, sym, arith, subst}
use Rattle.std.specs.Prelude.{if◌then◌else◌}
use Rattle.std.proofs.lemmas.Bool.{cases_lt}
use Rattle.std.proofs.lemmas.List.{length-drop}
use Rattle.format_table.specs.Forms.{most_numbers}
use Rattle.format_table.specs.Layout.{after}
use Rattle.format_table.specs.Limits.{fits}
use Rattle.format_table.specs.Parts.{Slot, width_of}
use Rattle.format_table.specs.Walk.{Found, and_then, nothing_left, number_first, numbers_from}
use Rattle.format_table.specs.Reading.{front_value}
use Rattle.format_table.specs.Taking.{Placed, byte_source, place_left, placed}
use Rattle.format_table.proofs.NumberLaws.{long, short}
use Rattle.format_kinds.specs.Kinds.{kind_at, slots_of_kind}
use Rattle.format_kinds.specs.declared.kind.Kind.{Kind}
use Rattle.format_bytes.specs.Taking.{of_kind, taken, with_kind}

-- a fault is at most so far
abbrev IsAt : {A : Type 0} → ℕ → Result A ℕ → Type 0
IsAt most (Ok a) = Unit {0}
IsAt most (Err place) = place ≤ most

left_at : (place : ℕ) (bytes : List ℕ) → IsAt (place + length bytes) (nothing_left (place_left place bytes))
left_at place [] = tt
left_at place (b ∷ bytes) = omega arith

first_at : (most : ℕ) (z : ℤ) (others : Result (List ℤ) ℕ) → IsAt most others → IsAt most (number_first z others)
first_at most z (Ok zs) is = tt
first_at most z (Err place) is = is

if_at : (most place : ℕ) (b : Bool) (others : Result (List ℤ) ℕ) → place ≤ most → IsAt most others → IsAt most (if b then others else Err place)
if_at most place true others le is = is
if_at most place false others le is = le

numbers_at : (most : ℕ) (slots : List Slot) (earlier : List ℤ) (place : ℕ) (bytes : List ℕ) → IsAt (place + length bytes) (numbers_from byte_source most slots earlier (placed place bytes))
unfolding numbers_from
numbers_at most [] earlier place bytes = left_at place bytes
numbers_at zero (slot ∷ slots) earlier place bytes = omega arith
numbers_at (suc most) (slot ∷ slots) earlier place bytes = elim (cases_lt (length bytes) (width_of slot.line.form)) [
  | inl lt ↦ subst (λ (r : Result (Found Placed) ℕ). IsAt (place + length bytes) (and_then r goes)) (sym (short slot.line.form place bytes lt)) (omega arith)
  | inr le ↦ subst (λ (r : Result (Found Placed) ℕ). IsAt (place + length bytes) (and_then r goes)) (sym (long slot.line.form place bytes le)) (
      let z = front_value slot.line.form bytes in
      let rest = numbers_at most (after (slot ∷ slots) z) (z ∷ earlier) (place + width_of slot.line.form) (drop (width_of slot.line.form) bytes) in
      let same : (place + width_of slot.line.form) + length (drop (width_of slot.line.form) bytes) ≡ place + length bytes = omega (arith, length-drop (width_of slot.line.form) bytes, le) in
      if_at (place + length bytes) place (fits slot.line.limit earlier z) _ (omega arith) (first_at (place + length bytes) z _
      (subst (λ (n : ℕ). IsAt n (numbers_from byte_source most (after (slot ∷ slots) z) (z ∷ earlier) (placed (place + width_of slot.line.form) (drop (width_of slot.line.form) bytes)))) same rest)))
]
  where
    goes : Found Placed → Result (List ℤ) ℕ
    goes found =
        if fits slot.line.limit earlier found.number then number_first found.number (numbers_from byte_source most (after (slot ∷ slots) found.number) (found.number ∷ earlier) found.rest)
        else Err place

kind_at_most : (kind : Kind) (most : ℕ) (read : Result (List ℤ) ℕ) → IsAt most read → IsAt most (with_kind kind read)
kind_at_most kind most (Ok zs) is = tt
kind_at_most kind most (Err place) is = is

of_kind_at : (kind : Option Kind) (bytes : List ℕ) → IsAt (1 + length bytes) (of_kind kind bytes)
of_kind_at None bytes = omega arith
of_kind_at (Some kind) bytes = kind_at_most kind (1 + length bytes) _ (numbers_at most_numbers (slots_of_kind kind) [] 1 bytes)

taken_at : (bytes : List ℕ) → IsAt (length bytes) (taken bytes)
taken_at [] = omega arith
taken_at (code ∷ bytes) =
    let count : 1 + length bytes ≡ length (code ∷ bytes) = omega arith in
    subst (λ (n : ℕ). IsAt n (of_kind (kind_at code) bytes)) count (of_kind_at (kind_at code) bytes)

pub taken_place : (bytes : List ℕ) (place : ℕ) → taken bytes ≡ Err place → place ≤ length bytes
taken_place bytes place is = subst (IsAt (length bytes)) is (taken_at bytes)
