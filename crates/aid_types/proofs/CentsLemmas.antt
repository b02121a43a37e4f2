-- A text spells at most one amount, and an amount has one spelling.
use Rattle.std.proofs.Common.{◌≡◌, ℕ, ◌+◌, ◌-◌, ◌*◌, ◌/◌, ◌%◌, ◌<◌, Bool, true, false, ◌&&◌, List, [], ◌∷◌, ◌++◌, length, take, drop, Option, Some, None, ◌==◌, if◌then◌else◌, refl, sym, ap, ◌∙◌, arith, length-append, take-append-drop}
use Rattle.std.specs.Char.{is_ascii_digit}
use Rattle.std.proofs.lemmas.Bool.{and_parts, eqb-true}
use Rattle.std.proofs.lemmas.Option.{none-some}
use Rattle.std.proofs.Math.Seq.{take-append_seam, drop-append_seam}
use Rattle.aid_types.specs.Whole.{natural_text, natural_of}
use Rattle.aid_types.specs.Cents.{fraction_text, cents_text, fraction_of, both_parts, cents_of}
use Rattle.aid_types.proofs.WholeLemmas.{digit_range, is_digit, natural_of-natural_text, natural_text-of}

fraction_of-fraction_text : (n : ℕ) → fraction_of (fraction_text n) ≡ Some (n % 100)
fraction_of-fraction_text n =
    let tens = is_digit (48 + n / 10 % 10) (omega arith) (omega arith) in
    let ones = is_digit (48 + n % 10) (omega arith) (omega arith) in
    let is : 10 * (48 + n / 10 % 10 - 48) + (48 + n % 10 - 48) ≡ n % 100 = omega arith in
    rw (tens, ones) (ap Some is)

pub cents_of-cents_text : (n : ℕ) → cents_of (cents_text n) ≡ Some n
cents_of-cents_text n =
    let dollars = natural_text (n / 100) in
    let point : length (cents_text n) - 3 ≡ length dollars = omega (arith, length-append dollars (fraction_text n)) in
    let front = take-append_seam dollars (fraction_text n) in
    let back = drop-append_seam dollars (fraction_text n) in
    let is : 100 * (n / 100) + n % 100 ≡ n = omega arith in
    rw (point, front, back, natural_of-natural_text (n / 100), fraction_of-fraction_text n) (ap Some is)

record IsFraction (text : List ℕ) (cents : ℕ) : Type 0 where
  below : cents < 100
  is : text ≡ fraction_text cents

fraction_text-of : (text : List ℕ) (cents : ℕ) → fraction_of text ≡ Some cents → IsFraction text cents
fraction_text-of [] cents h = absurd (none-some cents h)
fraction_text-of (a ∷ []) cents h = absurd (none-some cents h)
fraction_text-of (a ∷ b ∷ []) cents h = absurd (none-some cents h)
fraction_text-of (a ∷ b ∷ c ∷ d ∷ rest) cents h = absurd (none-some cents h)
fraction_text-of (point ∷ tens ∷ ones ∷ []) cents h = by_test ((point == 46) && is_ascii_digit tens && is_ascii_digit ones) refl h where
  by_test : (t : Bool) → ((point == 46) && is_ascii_digit tens && is_ascii_digit ones) ≡ t → (if t then Some (10 * (tens - 48) + (ones - 48)) else None) ≡ Some cents → IsFraction (point ∷ tens ∷ ones ∷ []) cents
  by_test false e k = absurd (none-some cents k)
  by_test true e k =
      let parts = and_parts ((point == 46) && is_ascii_digit tens) (is_ascii_digit ones) e in
      let front = and_parts (point == 46) (is_ascii_digit tens) parts.0 in
      let point_is = eqb-true point 46 front.0 in
      let high = digit_range tens front.1 in
      let low = digit_range ones parts.1 in
      let cents_is : 10 * (tens - 48) + (ones - 48) ≡ cents = cc in
      let tens_is : tens ≡ 48 + cents / 10 % 10 = omega arith in
      let ones_is : ones ≡ 48 + cents % 10 = omega arith in
      record { below = omega arith; is = cc }

pub cents_text-of : (text : List ℕ) (n : ℕ) → cents_of text ≡ Some n → text ≡ cents_text n
cents_text-of text n h = by_parts (natural_of (take point text)) (fraction_of (drop point text)) refl refl h where
  point : ℕ
  point = length text - 3

  by_parts : (o p : Option ℕ) → natural_of (take point text) ≡ o → fraction_of (drop point text) ≡ p → both_parts o p ≡ Some n → text ≡ cents_text n
  by_parts None p e f k = absurd (none-some n k)
  by_parts (Some dollars) None e f k = absurd (none-some n k)
  by_parts (Some dollars) (Some cents) e f k =
      let x = fraction_text-of (drop point text) cents f in
      let n_is : 100 * dollars + cents ≡ n = cc in
      let below = x.below in
      let dollars_is : dollars ≡ n / 100 = omega arith in
      let tens_is : cents / 10 % 10 ≡ n / 10 % 10 = omega arith in
      let ones_is : cents % 10 ≡ n % 10 = omega arith in
      let back : fraction_text cents ≡ fraction_text n = cc in
      sym (take-append-drop point text)
      ∙ ap (λ (xs : List ℕ). xs ++ drop point text) (natural_text-of (take point text) dollars e ∙ ap natural_text dollars_is)
      ∙ ap (λ (xs : List ℕ). natural_text (n / 100) ++ xs) (x.is ∙ back)
