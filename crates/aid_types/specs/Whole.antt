-- The one spelling of a whole number, in decimal digits, and the number that a text spells. Own rule: no leading
-- zero, no plus, no `-0`.
use Rattle.std.specs.Prelude.{ℕ, zero, suc, ◌-◌, ◌^◌, min, ℤ, pos, negsuc, neg_ℤ, int_le, Bool, false, not, ◌&&◌, List, [], ◌∷◌, Option, Some, None, Result, Ok, Err, option_map, ◌==◌, if◌then◌else◌}
use Rattle.std.specs.Char.{is_ascii_digit}
use Rattle.std.specs.Fmt.{digits_onto}
use Rattle.std.specs.List.{list_all}
use Rattle.std.specs.Str.Parse.{digits_value}
use Rattle.aid_types.specs.declared.text.Malformed.{Malformed}
use Rattle.aid_types.specs.declared.text.Malformed.TheVariants.{Spelling, Range}

-- the digits of a number that is not negative; std's `decimal` writes the same, up to 64 digits
abbrev pub natural_text : ℕ → List ℕ
natural_text n = digits_onto (suc n) 10 false n []

-- the spelling of any whole number: 45 is `-`
abbrev pub whole_text : ℤ → List ℕ
whole_text (pos n) = natural_text n
whole_text (negsuc n) = 45 ∷ natural_text (suc n)

-- digits, at least one, and no zero before others: 48 is `0`
abbrev pub is_natural : List ℕ → Bool
is_natural [] = false
is_natural (c ∷ []) = is_ascii_digit c
is_natural (c ∷ d ∷ ds) = not (c == 48) && list_all is_ascii_digit (c ∷ d ∷ ds)

-- the number that such a text spells
abbrev pub natural_of : List ℕ → Option ℕ
natural_of text = if is_natural text then Some (digits_value 10 text) else None

-- the number below zero of a size, which has to be above 0
abbrev pub below_zero : ℕ → Option ℤ
below_zero zero = None
below_zero (suc n) = Some (negsuc n)

abbrev pub option_below_zero : Option ℕ → Option ℤ
option_below_zero None = None
option_below_zero (Some n) = below_zero n

-- the whole number that a text spells; `of-whole_text` and `whole_text-of` of proofs/WholeLemmas say that it is the
-- one whose spelling the text is
abbrev pub whole_of : List ℕ → Option ℤ
whole_of [] = None
whole_of (c ∷ cs) = if c == 45 then option_below_zero (natural_of cs) else option_map pos (natural_of (c ∷ cs))

-- a number read in a range
abbrev pub whole_between : ℤ → ℤ → Option ℤ → Result ℤ Malformed
whole_between low high None = Err Spelling
whole_between low high (Some z) = if int_le low z && int_le z high then Ok z else Err Range

-- What the code keeps of a number whose size passes 64 bits: one past every range.
abbrev pub clamped : ℤ → ℤ
clamped (pos n) = pos (min n (2 ^ 64 - 1))
clamped (negsuc n) = neg_ℤ (pos (min (suc n) (2 ^ 64 - 1)))
