-- One number's bytes: what was read was spelled so, and what was spelled is read again.
use Rattle.std.proofs.Common.{◌≡◌, ℕ, suc, ◌+◌, ◌-◌, ◌^◌, ◌<◌, ◌≤◌, ℤ, pos, negsuc, ◌-ℤ◌, ◌≤ℤ◌, lit<, cond, lt-ltb, List, ◌++◌, length, take, drop, Result, Ok, Err, refl, sym, ap, subst, ◌∙◌, arith, length-append, inl, inr}
use Rattle.std.specs.Int.{w64, to_le_bytes, from_le_bytes, cast_unsigned}
use Rattle.std.proofs.lemmas.Bool.{cases_lt, le-ltb}
use Rattle.std.proofs.lemmas.Int.{ints}
use Rattle.std.proofs.lemmas.List.{drop_at, take_at, length-take-le, take-append-drop}
use Rattle.format_table.specs.Forms.{IsHeld}
use Rattle.format_table.specs.Parts.{width_of}
use Rattle.format_table.specs.Walk.{Found}
use Rattle.format_table.specs.declared.field.Form.{Form}
use Rattle.format_table.specs.declared.field.Form.TheVariants.{U8, U16, U32, U64, I64, Cents, Day, Flag, Word, Count}
use Rattle.format_table.specs.Spelling.{number_bytes}
use Rattle.format_table.specs.Reading.{front_value}
use Rattle.format_table.specs.Taking.{Placed, front_number, placed, value_in, with_sign}
use Rattle.format_table.proofs.Widths.{AreBytes, AreBytes-take, Width, bytes_again, low_four, size, size-word, within_word, word_again}
use Rattle.format_table.proofs.Widths.Width.{one, two, four, eight}

-- the width of a form
abbrev pub width : Form → Width
width U8 = one
width U16 = two
width U32 = four
width U64 = eight
width I64 = eight
width Cents = eight
width Day = four
width Flag = one
width Word = one
width Count = one

pub size-width : (form : Form) → size (width form) ≡ width_of form
size-width U8 = refl
size-width U16 = refl
size-width U32 = refl
size-width U64 = refl
size-width I64 = refl
size-width Cents = refl
size-width Day = refl
size-width Flag = refl
size-width Word = refl
size-width Count = refl

pub width_at_most : (form : Form) → width_of form ≤ 8
width_at_most U8 = omega arith
width_at_most U16 = omega arith
width_at_most U32 = omega arith
width_at_most U64 = omega arith
width_at_most I64 = omega arith
width_at_most Cents = omega arith
width_at_most Day = omega arith
width_at_most Flag = omega arith
width_at_most Word = omega arith
width_at_most Count = omega arith

pub width-positive : (form : Form) → 1 ≤ width_of form
width-positive U8 = omega arith
width-positive U16 = omega arith
width-positive U32 = omega arith
width-positive U64 = omega arith
width-positive I64 = omega arith
width-positive Cents = omega arith
width-positive Day = omega arith
width-positive Flag = omega arith
width-positive Word = omega arith
width-positive Count = omega arith

pub length-number_bytes : (form : Form) (z : ℤ) → length (number_bytes form z) ≡ width_of form
length-number_bytes form z = length-take-le (width_of form) (to_le_bytes w64 (cast_unsigned w64 z)) (width_at_most form)

-- ---- what was spelled is read again
-- a number that is not negative
plain_again : (w : Width) (z : ℤ) (high : ℕ) → pos 0 ≤ℤ z → z ≤ℤ pos high → high < 256 ^ size w → pos (from_le_bytes w64 (take (size w) (to_le_bytes w64 (cast_unsigned w64 z)))) ≡ z
plain_again w (negsuc n) high low le h = absurd (omega (arith, ints))
plain_again w (pos n) high low le h =
    let below : n < 256 ^ size w = omega (arith, ints) in
    ap pos (word_again w n below (within_word w n below))

eight_again : (z : ℤ) → IsHeld I64 z → with_sign 8 (from_le_bytes w64 (take 8 (to_le_bytes w64 (cast_unsigned w64 z)))) ≡ z
eight_again (pos n) h =
    let below : n < 256 ^ 8 = omega (arith, ints, h.high) in
    let word = word_again eight n below (within_word eight n below) in
    let less : n < 2 ^ 63 = omega (arith, ints, h.high) in
    ap (with_sign 8) word ∙ ap (λ b. cond b (pos n) (pos n -ℤ pos (2 ^ 64))) (lt-ltb n (2 ^ 63) less)
eight_again (negsuc n) h =
    let m : ℕ = 2 ^ 64 - suc n in
    let small : n < 10 ^ 12 = omega (arith, ints, h.low) in
    let below : 2 ^ 64 - suc n < 256 ^ 8 = omega arith in
    let word = word_again eight (2 ^ 64 - suc n) below (within_word eight (2 ^ 64 - suc n) below) in
    let high : 2 ^ 63 ≤ 2 ^ 64 - suc n = omega arith in
    let value : pos (2 ^ 64 - suc n) -ℤ pos (2 ^ 64) ≡ negsuc n = omega (arith, ints) in
    ap (with_sign 8) word ∙ ap (λ b. cond b (pos (2 ^ 64 - suc n)) (pos (2 ^ 64 - suc n) -ℤ pos (2 ^ 64))) (le-ltb (2 ^ 64 - suc n) (2 ^ 63) high) ∙ value

four_again : (z : ℤ) → IsHeld Day z → with_sign 4 (from_le_bytes w64 (take 4 (to_le_bytes w64 (cast_unsigned w64 z)))) ≡ z
four_again (pos n) h =
    let below : n < 256 ^ 4 = omega (arith, ints, h.high) in
    let word = word_again four n below (within_word four n below) in
    let less : n < 2 ^ 31 = omega (arith, ints, h.high) in
    ap (with_sign 4) word ∙ ap (λ b. cond b (pos n) (pos n -ℤ pos (2 ^ 32))) (lt-ltb n (2 ^ 31) less)
four_again (negsuc n) h =
    let small : n < 2 ^ 31 = omega (arith, ints, h.low) in
    let below : 2 ^ 32 - suc n < 256 ^ 4 = omega arith in
    let same : 2 ^ 64 - suc n ≡ (2 ^ 32 - suc n) + (2 ^ 64 - 2 ^ 32) = omega arith in
    let bytes = ap (λ k. take 4 (to_le_bytes w64 k)) same ∙ low_four (2 ^ 32 - suc n) below in
    let word = ap (from_le_bytes w64) bytes ∙ word_again four (2 ^ 32 - suc n) below (within_word four (2 ^ 32 - suc n) below) in
    let high : 2 ^ 31 ≤ 2 ^ 32 - suc n = omega arith in
    let value : pos (2 ^ 32 - suc n) -ℤ pos (2 ^ 32) ≡ negsuc n = omega (arith, ints) in
    ap (with_sign 4) word ∙ ap (λ b. cond b (pos (2 ^ 32 - suc n)) (pos (2 ^ 32 - suc n) -ℤ pos (2 ^ 32))) (le-ltb (2 ^ 32 - suc n) (2 ^ 31) high) ∙ value

pub value_again : (form : Form) (z : ℤ) → IsHeld form z → value_in form (from_le_bytes w64 (number_bytes form z)) ≡ z
value_again U8 z h = plain_again one z 255 h.low h.high (lit< tt)
value_again U16 z h = plain_again two z 65535 h.low h.high (lit< tt)
value_again U32 z h = plain_again four z 4294967295 h.low h.high (lit< tt)
value_again U64 z h = plain_again eight z (10 ^ 12) h.low h.high (lit< tt)
value_again I64 z h = eight_again z h
value_again Cents z h = plain_again eight z (10 ^ 12) h.low h.high (lit< tt)
value_again Day z h = four_again z h
value_again Flag z h = plain_again one z 255 h.low h.high (lit< tt)
value_again Word z h = plain_again one z 255 h.low h.high (lit< tt)
value_again Count z h = plain_again one z 255 h.low h.high (lit< tt)

-- ---- what was read was spelled so
past_half : (n : ℕ) → n < 2 ^ 64 → 2 ^ 63 ≤ n → cast_unsigned w64 (pos n -ℤ pos (2 ^ 64)) ≡ n
past_half n h le = let value : pos n -ℤ pos (2 ^ 64) ≡ negsuc (2 ^ 64 - 1 - n) = omega (arith, ints) in ap (cast_unsigned w64) value ∙ omega arith

past_half_day : (n : ℕ) → n < 2 ^ 32 → cast_unsigned w64 (pos n -ℤ pos (2 ^ 32)) ≡ n + (2 ^ 64 - 2 ^ 32)
past_half_day n h = let value : pos n -ℤ pos (2 ^ 32) ≡ negsuc (2 ^ 32 - 1 - n) = omega (arith, ints) in ap (cast_unsigned w64) value ∙ omega arith

eight_spelled : (n : ℕ) → n < 2 ^ 64 → cast_unsigned w64 (with_sign 8 n) ≡ n
eight_spelled n h =
    elim (cases_lt n (2 ^ 63)) [
      | inl lt ↦ ap (λ b. cast_unsigned w64 (cond b (pos n) (pos n -ℤ pos (2 ^ 64)))) (lt-ltb n (2 ^ 63) lt)
      | inr le ↦ ap (λ b. cast_unsigned w64 (cond b (pos n) (pos n -ℤ pos (2 ^ 64)))) (le-ltb n (2 ^ 63) le) ∙ past_half n h le
    ]

four_spelled : (n : ℕ) → n < 2 ^ 32 → take 4 (to_le_bytes w64 (cast_unsigned w64 (with_sign 4 n))) ≡ take 4 (to_le_bytes w64 n)
four_spelled n h =
    elim (cases_lt n (2 ^ 31)) [
      | inl lt ↦ ap (λ b. take 4 (to_le_bytes w64 (cast_unsigned w64 (cond b (pos n) (pos n -ℤ pos (2 ^ 32)))))) (lt-ltb n (2 ^ 31) lt)
      | inr le ↦ ap (λ b. take 4 (to_le_bytes w64 (cast_unsigned w64 (cond b (pos n) (pos n -ℤ pos (2 ^ 32)))))) (le-ltb n (2 ^ 31) le)
          ∙ ap (λ k. take 4 (to_le_bytes w64 k)) (past_half_day n h) ∙ low_four n h
    ]

bytes_of_value : (form : Form) (front : List ℕ) → length front ≡ width_of form → AreBytes front → number_bytes form (value_in form (from_le_bytes w64 front)) ≡ front
bytes_of_value U8 front len fits = bytes_again one front len fits
bytes_of_value U16 front len fits = bytes_again two front len fits
bytes_of_value U32 front len fits = bytes_again four front len fits
bytes_of_value U64 front len fits = bytes_again eight front len fits
bytes_of_value I64 front len fits =
    ap (λ k. take 8 (to_le_bytes w64 k)) (eight_spelled (from_le_bytes w64 front) (size-word eight front len fits)) ∙ bytes_again eight front len fits
bytes_of_value Cents front len fits = bytes_again eight front len fits
bytes_of_value Day front len fits = four_spelled (from_le_bytes w64 front) (size-word four front len fits) ∙ bytes_again four front len fits
bytes_of_value Flag front len fits = bytes_again one front len fits
bytes_of_value Word front len fits = bytes_again one front len fits
bytes_of_value Count front len fits = bytes_again one front len fits

-- ---- the number at the front of bytes
-- a number with the bytes behind it
abbrev pub found_at : Form → ℕ → List ℕ → ℤ → Found Placed
found_at form place bytes z = record { number = z; rest = placed (place + width_of form) (drop (width_of form) bytes) }

pub short : (form : Form) (place : ℕ) (bytes : List ℕ) → length bytes < width_of form → front_number form (placed place bytes) ≡ Err place
short form place bytes lt = ap (λ b. cond b (Err place) (Ok (found_at form place bytes (front_value form bytes)))) (lt-ltb (length bytes) (width_of form) lt)

pub long : (form : Form) (place : ℕ) (bytes : List ℕ) → width_of form ≤ length bytes → front_number form (placed place bytes) ≡ Ok (found_at form place bytes (front_value form bytes))
long form place bytes le = ap (λ b. cond b (Err place) (Ok (found_at form place bytes (front_value form bytes)))) (le-ltb (length bytes) (width_of form) le)

no_fault : (r : Result (Found Placed) ℕ) (place : ℕ) (found : Found Placed) → r ≡ Err place → r ≡ Ok found → ⊥
no_fault r place found e h = cc

one_found : (r : Result (Found Placed) ℕ) (f g : Found Placed) → r ≡ Ok f → r ≡ Ok g → f ≡ g
one_found r f g e h = cc

-- what it says of them
pub number_takes : (form : Form) (at : Placed) (found : Found Placed) → AreBytes at.bytes → front_number form at ≡ Ok found → at.bytes ≡ number_bytes form found.number ++ found.rest.bytes
number_takes form at found are e =
    let w = width_of form in
    let front = take w at.bytes in
    let value = value_in form (from_le_bytes w64 front) in
    elim (cases_lt (length at.bytes) w) [
      | inl lt ↦ absurd (no_fault (front_number form at) at.place found (short form at.place at.bytes lt) e)
      | inr le ↦
          let again : number_bytes form value ≡ front = bytes_of_value form front (length-take-le w at.bytes le) (AreBytes-take w at.bytes are) in
          let whole : at.bytes ≡ number_bytes form value ++ drop w at.bytes = sym (take-append-drop w at.bytes) ∙ ap (λ (bs : List ℕ). bs ++ drop w at.bytes) (sym again) in
          let same = one_found (front_number form at) (found_at form at.place at.bytes value) found (long form at.place at.bytes le) e in
          subst (λ (f : Found Placed). at.bytes ≡ number_bytes form f.number ++ f.rest.bytes) same whole
    ]

pub number_again : (form : Form) (place : ℕ) (z : ℤ) (rest : List ℕ) → IsHeld form z → front_number form (placed place (number_bytes form z ++ rest)) ≡ Ok (record { number = z; rest = placed (place + width_of form) rest })
number_again form place z rest held =
    let w = width_of form in
    let front = number_bytes form z in
    let len : length front ≡ w = length-number_bytes form z in
    let le : w ≤ length (front ++ rest) = omega (arith, length-append front rest, len) in
    let value : front_value form (front ++ rest) ≡ z = ap (λ (bs : List ℕ). value_in form (from_le_bytes w64 bs)) (take_at front rest w len) ∙ value_again form z held in
    long form place (front ++ rest) le ∙ (λ i. Ok (record { number = value i; rest = placed (place + w) (drop_at front rest w len i) }))
