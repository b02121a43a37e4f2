-- A text spells at most one number, and a number has one spelling.
use Rattle.std.proofs.Common.{◌≡◌, ℕ, zero, suc, ◌+◌, ◌*◌, ◌/◌, ◌%◌, ◌^◌, ◌<◌, ◌≤◌, Bool, true, false, not, ℤ, pos, negsuc, List, [], ◌∷◌, ◌++◌, Option, Some, None, option_map, nat_le, ◌==◌, inl, inr, append-nil, if◌then◌else◌, refl, sym, ap, ◌∙◌, arith, decimal, pow-suc, append_assoc, eqb}
use Rattle.std.specs.Char.{is_ascii_digit, digit_value}
use Rattle.std.specs.Fmt.{digits, digits_onto, digit_glyph}
use Rattle.std.specs.Int.{IsInRange}
use Rattle.std.specs.List.{list_all}
use Rattle.std.specs.Str.Parse.{digits_value, digits_value_after}
use Rattle.std.proofs.lemmas.Bool.{and_parts, and_from, eqb-true, eqb-false, ne_eqb, not-true, leb-true, le-leb, lt-ltb, true≢false, cases_lt}
use Rattle.std.proofs.lemmas.Str.{digit_value_digit}
use Rattle.std.proofs.lemmas.Option.{none-some}
use Rattle.aid_types.specs.Whole.{natural_text, whole_text, is_natural, natural_of, option_below_zero, whole_of}

-- ---- digits
pub digit_range : (c : ℕ) → is_ascii_digit c ≡ true → IsInRange 48 57 c
digit_range c h = let k = and_parts (nat_le 48 c) (nat_le c 57) h in (leb-true 48 c k.0, leb-true c 57 k.1)

pub digit_is : (c : ℕ) → is_ascii_digit c ≡ true → digit_value c + 48 ≡ c
digit_is c h = digit_value_digit c (digit_range c h)

pub is_digit : (c : ℕ) → 48 ≤ c → c ≤ 57 → is_ascii_digit c ≡ true
is_digit c h k = and_from (nat_le 48 c) (nat_le c 57) (le-leb 48 c h) (le-leb c 57 k)

value_digit : (d : ℕ) → d < 10 → digit_value (48 + d) ≡ d
value_digit d h = omega (arith, digit_value_digit (48 + d) (omega arith, omega arith))

glyph_is : (d : ℕ) → d < 10 → digit_glyph false d ≡ 48 + d
glyph_is d h = rw (lt-ltb d 10 h) refl

-- ---- std's digits: their last one, and the others before it
abbrev onto : ℕ → ℕ → List ℕ → List ℕ
onto k n acc = digits_onto k 10 false n acc

onto-one : (k n : ℕ) (acc : List ℕ) → n < 10 → onto (suc k) n acc ≡ (48 + n) ∷ acc
onto-one k n acc h =
    let front : n / 10 ≡ 0 = omega arith in
    let last : n % 10 ≡ n = omega arith in
    rw (front, last, glyph_is n h) refl

onto-more : (k n : ℕ) (acc : List ℕ) → 10 ≤ n → onto (suc k) n acc ≡ onto k (n / 10) ((48 + n % 10) ∷ acc)
onto-more k n acc h =
    let front : eqb (n / 10) 0 ≡ false = ne_eqb (n / 10) 0 (omega arith) in
    let last : n % 10 < 10 = omega arith in
    rw (front, glyph_is (n % 10) last) refl

onto-fuel : (k j n : ℕ) (acc : List ℕ) → n < k → n < j → onto k n acc ≡ onto j n acc
onto-fuel zero j n acc h l = absurd (omega arith)
onto-fuel (suc k) zero n acc h l = absurd (omega arith)
onto-fuel (suc k) (suc j) n acc h l =
    elim (cases_lt n 10) [
      | inl small ↦ onto-one k n acc small ∙ sym (onto-one j n acc small)
      | inr large ↦ onto-more k n acc large ∙ onto-fuel k j (n / 10) ((48 + n % 10) ∷ acc) (omega arith) (omega arith) ∙ sym (onto-more j n acc large)
    ]

-- k digits are enough below 10 ^ k
onto-places : (k j n : ℕ) (acc : List ℕ) → n < 10 ^ suc k → n < j → onto (suc k) n acc ≡ onto j n acc
onto-places k zero n acc h l = absurd (omega arith)
onto-places zero (suc j) n acc h l = let small : n < 10 = omega arith in onto-one zero n acc small ∙ sym (onto-one j n acc small)
onto-places (suc k) (suc j) n acc h l =
    elim (cases_lt n 10) [
      | inl small ↦ onto-one (suc k) n acc small ∙ sym (onto-one j n acc small)
      | inr large ↦
          let power : 10 ^ suc (suc k) ≡ 10 ^ suc k * 10 = pow-suc 10 (suc k) in
          onto-more (suc k) n acc large ∙ onto-places k j (n / 10) ((48 + n % 10) ∷ acc) (omega arith) (omega arith) ∙ sym (onto-more j n acc large)
    ]

onto-append : (k n : ℕ) (acc : List ℕ) → n < k → onto k n acc ≡ onto k n [] ++ acc
onto-append zero n acc h = absurd (omega arith)
onto-append (suc k) n acc h =
    elim (cases_lt n 10) [
      | inl small ↦ onto-one k n acc small ∙ ap (λ (xs : List ℕ). xs ++ acc) (sym (onto-one k n [] small))
      | inr large ↦
          let d = 48 + n % 10 in
          onto-more k n acc large
          ∙ onto-append k (n / 10) (d ∷ acc) (omega arith)
          ∙ sym (append_assoc (onto k (n / 10) []) (d ∷ []) acc)
          ∙ ap (λ (xs : List ℕ). xs ++ acc) (sym (onto-append k (n / 10) (d ∷ []) (omega arith)))
          ∙ ap (λ (xs : List ℕ). xs ++ acc) (sym (onto-more k n [] large))
    ]

onto-value : (k n : ℕ) (acc : List ℕ) → n < k → digits_value_after 10 0 (onto k n acc) ≡ digits_value_after 10 n acc
onto-value zero n acc h = absurd (omega arith)
onto-value (suc k) n acc h =
    elim (cases_lt n 10) [
      | inl small ↦
          let is : 0 * 10 + digit_value (48 + n) ≡ n = omega (arith, value_digit n small) in
          rw (onto-one k n acc small) (ap (λ (v : ℕ). digits_value_after 10 v acc) is)
      | inr large ↦
          let last : n % 10 < 10 = omega arith in
          let is : n / 10 * 10 + digit_value (48 + n % 10) ≡ n = omega (arith, value_digit (n % 10) last) in
          rw (onto-more k n acc large) (onto-value k (n / 10) ((48 + n % 10) ∷ acc) (omega arith) ∙ ap (λ (v : ℕ). digits_value_after 10 v acc) is)
    ]

onto-digits : (k n : ℕ) (acc : List ℕ) → n < k → list_all is_ascii_digit acc ≡ true → list_all is_ascii_digit (onto k n acc) ≡ true
onto-digits zero n acc h l = absurd (omega arith)
onto-digits (suc k) n acc h l =
    elim (cases_lt n 10) [
      | inl small ↦ rw (onto-one k n acc small) (and_from (is_ascii_digit (48 + n)) (list_all is_ascii_digit acc) (is_digit (48 + n) (omega arith) (omega arith)) l)
      | inr large ↦
          let d = 48 + n % 10 in
          rw (onto-more k n acc large) (onto-digits k (n / 10) (d ∷ acc) (omega arith) (and_from (is_ascii_digit d) (list_all is_ascii_digit acc) (is_digit d (omega arith) (omega arith)) l))
    ]

-- a text's first byte
record Begins (n : ℕ) (text : List ℕ) : Type 0 where
  first : ℕ
  rest : List ℕ
  is : text ≡ first ∷ rest
  digit : 48 ≤ first
  leading : 0 < n → 48 < first

onto-begins : (k n : ℕ) (acc : List ℕ) → n < k → Begins n (onto k n acc)
onto-begins zero n acc h = absurd (omega arith)
onto-begins (suc k) n acc h =
    elim (cases_lt n 10) [
      | inl small ↦ record { first = 48 + n; rest = acc; is = onto-one k n acc small; digit = omega arith; leading = λ p. omega arith }
      | inr large ↦
          let x = onto-begins k (n / 10) ((48 + n % 10) ∷ acc) (omega arith) in
          record { first = x.first; rest = x.rest; is = onto-more k n acc large ∙ x.is; digit = x.digit; leading = λ p. x.leading (omega arith) }
    ]

-- ---- a number that is not negative
-- std's word for it, up to 64 digits
pub decimal-natural_text : (n : ℕ) → n < 10 ^ 64 → decimal n ≡ natural_text n
unfolding digits
decimal-natural_text n h = onto-places 63 (suc n) n [] h (omega arith)

-- its last digit
natural_text-push : (v c : ℕ) → 0 < v → is_ascii_digit c ≡ true → natural_text (v * 10 + digit_value c) ≡ natural_text v ++ (c ∷ [])
natural_text-push v c h l =
    let value = digit_is c l in
    let range = digit_range c l in
    let n = v * 10 + digit_value c in
    let large : 10 ≤ n = omega arith in
    let front : n / 10 ≡ v = omega arith in
    let last : 48 + n % 10 ≡ c = omega arith in
    let least : v < n = omega arith in
    onto-more n n [] large
    ∙ ap (λ (d : ℕ). onto n (n / 10) (d ∷ [])) last
    ∙ ap (λ (m : ℕ). onto n m (c ∷ [])) front
    ∙ onto-append n v (c ∷ []) least
    ∙ ap (λ (xs : List ℕ). xs ++ (c ∷ [])) (onto-fuel n (suc v) v [] least (omega arith))

natural_text-after : (v : ℕ) (cs : List ℕ) → 0 < v → list_all is_ascii_digit cs ≡ true → natural_text (digits_value_after 10 v cs) ≡ natural_text v ++ cs
natural_text-after v [] h l = sym (append-nil (natural_text v))
natural_text-after v (c ∷ cs) h l =
    let k = and_parts (is_ascii_digit c) (list_all is_ascii_digit cs) l in
    natural_text-after (v * 10 + digit_value c) cs (omega arith) k.1
    ∙ ap (λ (xs : List ℕ). xs ++ cs) (natural_text-push v c h k.0)
    ∙ append_assoc (natural_text v) (c ∷ []) cs

natural_text-digit : (c : ℕ) → is_ascii_digit c ≡ true → natural_text (0 * 10 + digit_value c) ≡ c ∷ []
natural_text-digit c h =
    let value = digit_is c h in
    let range = digit_range c h in
    let n = 0 * 10 + digit_value c in
    let small : n < 10 = omega arith in
    let is : 48 + n ≡ c = omega arith in
    onto-one n n [] small ∙ ap (λ (d : ℕ). d ∷ []) is

-- a text of the right form is the spelling of its value
natural_text-value : (text : List ℕ) → is_natural text ≡ true → natural_text (digits_value 10 text) ≡ text
natural_text-value [] h = absurd (true≢false (sym h))
natural_text-value (c ∷ []) h = natural_text-digit c h
natural_text-value (c ∷ d ∷ ds) h =
    let k = and_parts (not (c == 48)) (list_all is_ascii_digit (c ∷ d ∷ ds)) h in
    let digits = and_parts (is_ascii_digit c) (list_all is_ascii_digit (d ∷ ds)) k.1 in
    let value = digit_is c digits.0 in
    let range = digit_range c digits.0 in
    let leading : c ≡ 48 → ⊥ = eqb-false c 48 (not-true (c == 48) k.0) in
    let positive : 0 < 0 * 10 + digit_value c = omega arith in
    natural_text-after (0 * 10 + digit_value c) (d ∷ ds) positive digits.1
    ∙ ap (λ (xs : List ℕ). xs ++ (d ∷ ds)) (natural_text-digit c digits.0)

is_natural-from : (c : ℕ) (cs : List ℕ) → 48 < c → list_all is_ascii_digit (c ∷ cs) ≡ true → is_natural (c ∷ cs) ≡ true
is_natural-from c [] h l = (and_parts (is_ascii_digit c) true l).0
is_natural-from c (d ∷ ds) h l = and_from (not (c == 48)) (list_all is_ascii_digit (c ∷ d ∷ ds)) (rw (ne_eqb c 48 (omega arith)) refl) l

is_natural-natural_text : (n : ℕ) → is_natural (natural_text n) ≡ true
is_natural-natural_text zero = refl
is_natural-natural_text (suc n) =
    let x = onto-begins (suc (suc n)) (suc n) [] (omega arith) in
    let digits = onto-digits (suc (suc n)) (suc n) [] (omega arith) refl in
    rw x.is (is_natural-from x.first x.rest (x.leading (omega arith)) (rw x.is at digits))

pub natural_of-natural_text : (n : ℕ) → natural_of (natural_text n) ≡ Some n
natural_of-natural_text n = rw (is_natural-natural_text n) (ap Some (onto-value (suc n) n [] (omega arith)))

pub natural_text-of : (text : List ℕ) (n : ℕ) → natural_of text ≡ Some n → text ≡ natural_text n
natural_text-of text n h = by_test (is_natural text) refl h where
  by_test : (b : Bool) → is_natural text ≡ b → (if b then Some (digits_value 10 text) else None) ≡ Some n → text ≡ natural_text n
  by_test true e k = let is : digits_value 10 text ≡ n = cc in sym (natural_text-value text e) ∙ ap natural_text is
  by_test false e k = absurd (none-some n k)

-- ---- any whole number
pub whole_of-whole_text : (z : ℤ) → whole_of (whole_text z) ≡ Some z
whole_of-whole_text (negsuc n) = rw (natural_of-natural_text (suc n)) refl
whole_of-whole_text (pos n) =
    let x = onto-begins (suc n) n [] (omega arith) in
    let is = natural_of-natural_text n in
    let plain : (x.first == 45) ≡ false = ne_eqb x.first 45 (omega (arith, x.digit)) in
    rw (x.is, plain) (rw (← x.is, is) refl)

pub whole_text-of : (text : List ℕ) (z : ℤ) → whole_of text ≡ Some z → text ≡ whole_text z
whole_text-of [] z h = absurd (none-some z h)
whole_text-of (c ∷ cs) z h = by_sign (c == 45) refl h where
  minus : (o : Option ℕ) → natural_of cs ≡ o → c ≡ 45 → option_below_zero o ≡ Some z → c ∷ cs ≡ whole_text z
  minus None e k l = absurd (none-some z l)
  minus (Some zero) e k l = absurd (none-some z l)
  minus (Some (suc n)) e k l =
      let z_is : negsuc n ≡ z = cc in
      let digits = natural_text-of cs (suc n) e in
      rw (k, digits) (ap whole_text z_is)

  plain : (o : Option ℕ) → natural_of (c ∷ cs) ≡ o → option_map pos o ≡ Some z → c ∷ cs ≡ whole_text z
  plain None e l = absurd (none-some z l)
  plain (Some n) e l = let z_is : pos n ≡ z = cc in natural_text-of (c ∷ cs) n e ∙ ap whole_text z_is

  by_sign : (b : Bool) → (c == 45) ≡ b → (if b then option_below_zero (natural_of cs) else option_map pos (natural_of (c ∷ cs))) ≡ Some z → c ∷ cs ≡ whole_text z
  by_sign true e l = minus (natural_of cs) refl (eqb-true c 45 e) l
  by_sign false e l = plain (natural_of (c ∷ cs)) refl l
