-- The one spelling of an amount in cents, as `1234.56`, and the amount that a text spells. Own rule: whole dollars
-- without a leading zero, a point, two digits.
use Rattle.std.specs.Prelude.{ℕ, ◌+◌, ◌-◌, ◌*◌, ◌/◌, ◌%◌, ◌&&◌, List, [], ◌∷◌, ◌++◌, length, take, drop, Option, Some, None, Result, Ok, Err, ◌==◌, nat_le, if◌then◌else◌}
use Rattle.std.specs.Char.{is_ascii_digit}
use Rattle.aid_types.specs.declared.text.Malformed.{Malformed}
use Rattle.aid_types.specs.declared.text.Malformed.TheVariants.{Spelling, Range}
use Rattle.aid_types.specs.Whole.{natural_text, natural_of}

-- a point and the two digits of a part of a dollar: 46 is `.`, 48 is `0`
abbrev pub fraction_text : ℕ → List ℕ
fraction_text n = 46 ∷ (48 + n / 10 % 10) ∷ (48 + n % 10) ∷ []

abbrev pub cents_text : ℕ → List ℕ
cents_text n = natural_text (n / 100) ++ fraction_text n

-- the cents that a point and two digits spell
abbrev pub fraction_of : List ℕ → Option ℕ
fraction_of (point ∷ tens ∷ ones ∷ []) = if (point == 46) && is_ascii_digit tens && is_ascii_digit ones then Some (10 * (tens - 48) + (ones - 48)) else None
fraction_of _ = None

-- dollars and cents together
abbrev pub both_parts : Option ℕ → Option ℕ → Option ℕ
both_parts (Some dollars) (Some cents) = Some (100 * dollars + cents)
both_parts (Some dollars) None = None
both_parts None cents = None

-- the cents that a text spells; `of-cents_text` and `cents_text-of` of proofs/CentsLemmas say that it is the one
-- amount whose spelling the text is
abbrev pub cents_of : List ℕ → Option ℕ
cents_of text = let point = length text - 3 in both_parts (natural_of (take point text)) (fraction_of (drop point text))

-- an amount read, up to the most
abbrev pub cents_up_to : ℕ → Option ℕ → Result ℕ Malformed
cents_up_to most None = Err Spelling
cents_up_to most (Some n) = if nat_le n most then Ok n else Err Range
