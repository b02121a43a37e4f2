-- Two digits of lower case for each byte: what they spell, and that no other bytes have them.
use Rattle.std.proofs.Common.{◌≡◌, ℕ, zero, suc, ◌+◌, ◌*◌, ◌/◌, ◌%◌, ◌<◌, ◌≤◌, Bool, true, false, List, [], ◌∷◌, ◌++◌, length, take, slice_index, unwrap_or, Result, Ok, Err, refl, sym, ap, ◌∙◌, arith}
use Rattle.std.specs.Prelude.{MatchResult, nat_lt, ◌==◌, ◌&&◌, ◌||◌}
use Rattle.std.specs.List.{list_all, list_any}
use Rattle.std.specs.Result.{result_unwrap_or}
use Rattle.std.proofs.lemmas.Bool.{and_from, and_parts, eqb-true, ltb-true}
use Rattle.std.proofs.lemmas.List.{length-take-le, take_more}
use Rattle.hex.specs.Hex.{IsBytes, decode_of, decode_sized, encode_lower, encode_with, hex_digit_value, lower_digits}
use Rattle.hex.specs.declared.error.FromHexError.{FromHexError}
use Rattle.hex.proofs.HexLemmas.{decode_of-encode_lower, decode_sized-encode_lower, length-encode_with}
use Rattle.office_export.specs.Forms.{are_digits, is_digit}
use Rattle.office_export.proofs.Visible.{AreVisible, is_visible, visible_from}

-- a test that each of some numbers passes is passed by the one at a place, and by one that is among them
passes_at : (test : ℕ → Bool) (ds : List ℕ) (k : ℕ) → k < length ds → list_all test ds ≡ true → test (slice_index ds k) ≡ true
passes_at test [] k lt h = absurd (omega arith)
passes_at test (d ∷ ds) zero lt h = (and_parts (test d) (list_all test ds) h).0
passes_at test (d ∷ ds) (suc k) lt h = passes_at test ds k (omega arith) (and_parts (test d) (list_all test ds) h).1

passes_among : (test : ℕ → Bool) (ds : List ℕ) (c : ℕ) → list_all test ds ≡ true → list_any (λ d. c == d) ds ≡ true → test c ≡ true
passes_among test [] c h any = absurd cc
passes_among test (d ∷ ds) c h any =
    let parts = and_parts (test d) (list_all test ds) h in
    go (c == d) refl any parts.0 (passes_among test ds c parts.1)
  where
    go : (b : Bool) → (c == d) ≡ b → (b || list_any (λ d. c == d) ds) ≡ true → test d ≡ true → (list_any (λ d. c == d) ds ≡ true → test c ≡ true) → test c ≡ true
    go true same any first rest = ap test (eqb-true c d same) ∙ first
    go false same any first rest = rest any

-- ---- one digit
digit_at : (v : ℕ) → v < 16 → is_digit (slice_index lower_digits v) ≡ true
digit_at v lt = passes_at is_digit lower_digits v lt refl

-- what a digit is worth, and that it is the digit of that
abbrev worth : ℕ → ℕ
worth c = unwrap_or (hex_digit_value c) 99

abbrev is_worth : ℕ → Bool
is_worth c = nat_lt (worth c) 16 && slice_index lower_digits (worth c) == c

worth_small : (c : ℕ) → is_digit c ≡ true → worth c < 16
worth_small c h = ltb-true (worth c) 16 (and_parts (nat_lt (worth c) 16) (slice_index lower_digits (worth c) == c) (passes_among is_worth lower_digits c refl h)).0

worth_again : (c : ℕ) → is_digit c ≡ true → slice_index lower_digits (worth c) ≡ c
worth_again c h = eqb-true (slice_index lower_digits (worth c)) c (and_parts (nat_lt (worth c) 16) (slice_index lower_digits (worth c) == c) (passes_among is_worth lower_digits c refl h)).1

digit_is_visible : (c : ℕ) → is_digit c ≡ true → is_visible c ≡ true
digit_is_visible c h = passes_among is_visible lower_digits c refl h

-- ---- all digits of bytes
bytes_rest : (b : ℕ) (bytes : List ℕ) → IsBytes (b ∷ bytes) → IsBytes bytes
bytes_rest b bytes h i = h (suc i)

bytes_more : (b : ℕ) (bytes : List ℕ) → b < 256 → IsBytes bytes → IsBytes (b ∷ bytes)
bytes_more b bytes h hs zero = h
bytes_more b bytes h hs (suc i) = hs i

all_digits : (bytes : List ℕ) → IsBytes bytes → list_all is_digit (encode_lower bytes) ≡ true
unfolding encode_with
all_digits [] h = refl
all_digits (b ∷ bytes) h =
    let fits : b < 256 = h 0 in
    and_from (is_digit (slice_index lower_digits (b / 16))) (is_digit (slice_index lower_digits (b % 16)) && list_all is_digit (encode_lower bytes)) (digit_at (b / 16) (omega arith))
    (and_from (is_digit (slice_index lower_digits (b % 16))) (list_all is_digit (encode_lower bytes)) (digit_at (b % 16) (omega arith)) (all_digits bytes (bytes_rest b bytes h)))

pub are_digits-encode_lower : (bytes : List ℕ) → IsBytes bytes → are_digits (encode_lower bytes) ≡ true
are_digits-encode_lower bytes h =
    let even : length (encode_lower bytes) % 2 ≡ 0 = omega (arith, length-encode_with lower_digits bytes) in
    and_from (length (encode_lower bytes) % 2 == 0) (list_all is_digit (encode_lower bytes)) (ap (λ n. n == 0) even) (all_digits bytes h)

pub visible_digits : (text : List ℕ) → are_digits text ≡ true → AreVisible text
visible_digits text h = visible_from is_digit digit_is_visible text (and_parts (length text % 2 == 0) (list_all is_digit text) h).1

-- ---- the bytes that digits spell
pub record AreSpelled (text : List ℕ) : Type 0 where
  pub bytes : List ℕ
  pub are_bytes : IsBytes bytes
  pub spelled : encode_lower bytes ≡ text

pairs : (text : List ℕ) → length text % 2 ≡ 0 → list_all is_digit text ≡ true → AreSpelled text
unfolding encode_with
pairs [] even h = record { bytes = []; are_bytes = λ i. omega arith; spelled = refl }
pairs (a ∷ []) even h = absurd (omega arith)
pairs (a ∷ b ∷ text) even h =
    let parts = and_parts (is_digit a) (is_digit b && list_all is_digit text) h in
    let others = and_parts (is_digit b) (list_all is_digit text) parts.1 in
    let rest = pairs text (omega arith) others.1 in
    let small_a = worth_small a parts.0 in
    let small_b = worth_small b others.0 in
    let high : (worth a * 16 + worth b) / 16 ≡ worth a = omega (arith, small_b) in
    let low : (worth a * 16 + worth b) % 16 ≡ worth b = omega (arith, small_b) in
    record {
      bytes = (worth a * 16 + worth b) ∷ rest.bytes;
      are_bytes = bytes_more (worth a * 16 + worth b) rest.bytes (omega (arith, small_a, small_b)) rest.are_bytes;
      spelled =
          ap (λ n. slice_index lower_digits n ∷ slice_index lower_digits ((worth a * 16 + worth b) % 16) ∷ encode_lower rest.bytes) high
          ∙ ap (λ n. slice_index lower_digits (worth a) ∷ slice_index lower_digits n ∷ encode_lower rest.bytes) low
          ∙ ap (λ c. c ∷ slice_index lower_digits (worth b) ∷ encode_lower rest.bytes) (worth_again a parts.0)
          ∙ ap (λ c. a ∷ c ∷ encode_lower rest.bytes) (worth_again b others.0)
          ∙ ap (λ (cs : List ℕ). a ∷ b ∷ cs) rest.spelled;
    }

pub are_spelled : (text : List ℕ) → are_digits text ≡ true → AreSpelled text
are_spelled text h =
    let parts = and_parts (length text % 2 == 0) (list_all is_digit text) h in
    pairs text (eqb-true (length text % 2) 0 parts.0) parts.1

-- bytes have digits of their own
pub same_bytes : (xs ys : List ℕ) → IsBytes xs → IsBytes ys → encode_lower xs ≡ encode_lower ys → xs ≡ ys
same_bytes xs ys hx hy e =
    ap (λ (r : Result (List ℕ) FromHexError). result_unwrap_or r []) (sym (decode_of-encode_lower xs hx) ∙ ap decode_of e ∙ decode_of-encode_lower ys hy)

-- ---- digits by pieces, and decoded
encode_append : (xs ys : List ℕ) → encode_lower (xs ++ ys) ≡ encode_lower xs ++ encode_lower ys
unfolding encode_with
encode_append [] ys = refl
encode_append (x ∷ xs) ys = ap (λ (cs : List ℕ). slice_index lower_digits (x / 16) ∷ slice_index lower_digits (x % 16) ∷ cs) (encode_append xs ys)

pub encode_more : (bytes : List ℕ) (i : ℕ) → i < length bytes → encode_lower (take (i + 1) bytes) ≡ encode_lower (take i bytes) ++ encode_lower (slice_index bytes i ∷ [])
encode_more bytes i lt = ap encode_lower (take_more bytes i 0 lt) ∙ encode_append (take i bytes) (slice_index bytes i ∷ [])

pub no_digits : encode_lower [] ≡ []
unfolding encode_with
no_digits = refl

pub decoded : (text : List ℕ) (n : ℕ) (h : are_digits text ≡ true) → n ≡ length text / 2 → decode_sized text n ≡ Ok (are_spelled text h).bytes
decoded text n h half =
    let s = are_spelled text h in
    let size : length s.bytes ≡ n = omega (arith, half, length-encode_with lower_digits s.bytes, ap (λ (cs : List ℕ). length cs) s.spelled) in
    ap (λ (cs : List ℕ). decode_sized cs n) (sym s.spelled) ∙ decode_sized-encode_lower s.bytes n size s.are_bytes

-- in the front of a room that is large enough
pub told : (text room : List ℕ) (h : are_digits text ≡ true) → length text / 2 ≤ length room → (r : Result (Unit {0}) FromHexError) (out : List ℕ)
    → MatchResult (decode_sized text (length (take (length text / 2) room))) (λ bytes. (r ≡ Ok tt) × (out ≡ bytes)) (λ e. r ≡ Err e) → (r ≡ Ok tt) × (out ≡ (are_spelled text h).bytes)
told text room h fits r out value = rw (decoded text (length (take (length text / 2) room)) h (length-take-le (length text / 2) room fits)) at value
