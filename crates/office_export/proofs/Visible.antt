-- Bytes above the blank, as all words of a line have them.
use Rattle.std.proofs.Common.{◌≡◌, ℕ, suc, ◌+◌, ◌/◌, ◌%◌, ◌<◌, ◌^◌, Bool, true, false, List, [], ◌∷◌, ◌++◌, Some, None, pos, negsuc, ℤ, refl, arith, decimal, if◌then◌else◌}
use Rattle.std.specs.Prelude.{nat_lt, ◌==◌, ◌&&◌}
use Rattle.std.specs.Char.{is_ascii_digit}
use Rattle.std.specs.List.{list_all}
use Rattle.std.specs.Str.Parse.{digits_value}
use Rattle.std.proofs.lemmas.Bool.{and_from, and_parts, lt-ltb, ltb-true, ne_eqb}
use Rattle.aid_types.specs.Words.{formula_text, way_text}
use Rattle.aid_types.specs.declared.award.Formula.{Formula}
use Rattle.aid_types.specs.declared.award.Formula.TheVariants.{A, B, C}
use Rattle.aid_types.specs.declared.award.Way.{Way}
use Rattle.aid_types.specs.declared.award.Way.TheVariants.{Maximum, Calculated, Minimum, Nothing}
use Rattle.aid_types.specs.Cents.{cents_text}
use Rattle.aid_types.specs.Whole.{is_natural, natural_text, whole_text}
use Rattle.aid_types.proofs.WholeLemmas.{decimal-natural_text, digit_range, natural_of-natural_text}

abbrev pub is_visible : ℕ → Bool
is_visible c = nat_lt 32 c

abbrev pub AreVisible : List ℕ → Type 0
AreVisible text = list_all is_visible text ≡ true

pub visible_append : (xs ys : List ℕ) → AreVisible xs → AreVisible ys → AreVisible (xs ++ ys)
visible_append [] ys h k = k
visible_append (x ∷ xs) ys h k =
    let parts = and_parts (is_visible x) (list_all is_visible xs) h in
    and_from (is_visible x) (list_all is_visible (xs ++ ys)) parts.0 (visible_append xs ys parts.1 k)

-- what passes a test that only visible bytes pass
pub visible_from : (test : ℕ → Bool) → ((c : ℕ) → test c ≡ true → is_visible c ≡ true) → (text : List ℕ) → list_all test text ≡ true → AreVisible text
visible_from test f [] h = refl
visible_from test f (x ∷ xs) h =
    let parts = and_parts (test x) (list_all test xs) h in
    and_from (is_visible x) (list_all is_visible xs) (f x parts.0) (visible_from test f xs parts.1)

digit_visible : (c : ℕ) → is_ascii_digit c ≡ true → is_visible c ≡ true
digit_visible c h = let range = digit_range c h in lt-ltb 32 c (omega (arith, range))

natural_visible : (text : List ℕ) → is_natural text ≡ true → AreVisible text
natural_visible [] h = refl
natural_visible (c ∷ []) h = and_from (is_visible c) true (digit_visible c h) refl
natural_visible (c ∷ d ∷ ds) h = visible_from is_ascii_digit digit_visible (c ∷ d ∷ ds) (and_parts _ (list_all is_ascii_digit (c ∷ d ∷ ds)) h).1

is_natural-text : (n : ℕ) → is_natural (natural_text n) ≡ true
is_natural-text n = go (is_natural (natural_text n)) (natural_of-natural_text n)
  where
    go : (b : Bool) → (if b then Some (digits_value 10 (natural_text n)) else None) ≡ Some n → b ≡ true
    go true e = refl
    go false e = absurd cc

pub visible_natural : (n : ℕ) → AreVisible (natural_text n)
visible_natural n = natural_visible (natural_text n) (is_natural-text n)

pub visible_decimal : (n : ℕ) → n < 10 ^ 64 → AreVisible (decimal n)
visible_decimal n few = rw (decimal-natural_text n few) (visible_natural n)

pub visible_whole : (z : ℤ) → AreVisible (whole_text z)
visible_whole (pos n) = visible_natural n
visible_whole (negsuc n) = and_from (is_visible 45) (list_all is_visible (natural_text (suc n))) refl (visible_natural (suc n))

pub visible_cents : (n : ℕ) → AreVisible (cents_text n)
visible_cents n = visible_append (natural_text (n / 100)) _ (visible_natural (n / 100)) fraction
  where
    fraction : AreVisible (46 ∷ (48 + n / 10 % 10) ∷ (48 + n % 10) ∷ [])
    fraction =
        and_from (is_visible (48 + n / 10 % 10)) (is_visible (48 + n % 10) && true) (lt-ltb 32 (48 + n / 10 % 10) (omega arith))
        (and_from (is_visible (48 + n % 10)) true (lt-ltb 32 (48 + n % 10) (omega arith)) refl)

pub visible_formula : (f : Formula) → AreVisible (formula_text f)
visible_formula A = refl
visible_formula B = refl
visible_formula C = refl

pub visible_way : (w : Way) → AreVisible (way_text w)
visible_way Maximum = refl
visible_way Calculated = refl
visible_way Minimum = refl
visible_way Nothing = refl

-- no visible byte is a blank or a line feed
pub no_blank : (c : ℕ) → is_visible c ≡ true → (c == 32) ≡ false
no_blank c h = let above = ltb-true 32 c h in ne_eqb c 32 (λ e. omega (arith, above, e))

pub no_line_feed : (c : ℕ) → is_visible c ≡ true → (c == 10) ≡ false
no_line_feed c h = let above = ltb-true 32 c h in ne_eqb c 10 (λ e. omega (arith, above, e))
