-- The bytes of a number of 1, 2, 4 or 8 bytes, and the number of such bytes.
use Rattle.std.proofs.Common.{◌≡◌, ℕ, ◌+◌, ◌-◌, ◌/◌, ◌%◌, ◌^◌, ◌<◌, ◌≤◌, List, [], ◌∷◌, ◌++◌, length, get_or, take, drop, replicate, refl, sym, ap, subst, ◌∙◌, arith, length-append, inl, inr}
use Rattle.std.specs.Int.{w64, to_le_bytes, from_le_bytes}
use Rattle.std.proofs.lemmas.Bool.{cases_lt}
use Rattle.std.proofs.lemmas.List.{take_at, length-take, get_or-take, get_or-drop, get_or_past}
use Rattle.std.proofs.lemmas.Nat.{le_bytes_8, from_le_bytes-to_le_bytes_8}
use Rattle.format_table.proofs.WordLemmas.{zero_at, padded_at, word-padded}

pub data Width : Type 0 where
  one : Width
  two : Width
  four : Width
  eight : Width

abbrev pub size : Width → ℕ
size one = 1
size two = 2
size four = 4
size eight = 8

abbrev pub AreBytes : List ℕ → Type 0
AreBytes bytes = (i : ℕ) → get_or bytes i 0 < 256

pub AreBytes-drop : (n : ℕ) (bytes : List ℕ) → AreBytes bytes → AreBytes (drop n bytes)
AreBytes-drop n bytes h i = rw get_or-drop (h (n + i))

pub AreBytes-take : (n : ℕ) (bytes : List ℕ) → AreBytes bytes → AreBytes (take n bytes)
AreBytes-take n bytes h i =
    elim (cases_lt i n) [
      | inl lt ↦ rw (get_or-take n bytes i 0 lt) (h i)
      | inr le ↦ rw (get_or_past (take n bytes) i 0 (omega (arith, length-take n bytes))) (omega arith)
    ]

pub width_at_most : (w : Width) → size w ≤ 8
width_at_most one = omega arith
width_at_most two = omega arith
width_at_most four = omega arith
width_at_most eight = omega arith

abbrev none : ℕ → List ℕ
none n = replicate n 0

-- the eight bytes of a number that has few enough
short : (w : Width) (n : ℕ) → n < 256 ^ size w → to_le_bytes w64 n ≡ take (size w) (to_le_bytes w64 n) ++ none (8 - size w)
short one n h =
    let cell1 : n / 256 % 256 ≡ 0 = omega arith in
    let cell2 : n / 65536 % 256 ≡ 0 = omega arith in
    let cell3 : n / 16777216 % 256 ≡ 0 = omega arith in
    let cell4 : n / 4294967296 % 256 ≡ 0 = omega arith in
    let cell5 : n / 1099511627776 % 256 ≡ 0 = omega arith in
    let cell6 : n / 281474976710656 % 256 ≡ 0 = omega arith in
    let cell7 : n / 72057594037927936 % 256 ≡ 0 = omega arith in
    rw (cell1, cell2, cell3, cell4, cell5, cell6, cell7) refl
short two n h =
    let cell2 : n / 65536 % 256 ≡ 0 = omega arith in
    let cell3 : n / 16777216 % 256 ≡ 0 = omega arith in
    let cell4 : n / 4294967296 % 256 ≡ 0 = omega arith in
    let cell5 : n / 1099511627776 % 256 ≡ 0 = omega arith in
    let cell6 : n / 281474976710656 % 256 ≡ 0 = omega arith in
    let cell7 : n / 72057594037927936 % 256 ≡ 0 = omega arith in
    rw (cell2, cell3, cell4, cell5, cell6, cell7) refl
short four n h =
    let cell4 : n / 4294967296 % 256 ≡ 0 = omega arith in
    let cell5 : n / 1099511627776 % 256 ≡ 0 = omega arith in
    let cell6 : n / 281474976710656 % 256 ≡ 0 = omega arith in
    let cell7 : n / 72057594037927936 % 256 ≡ 0 = omega arith in
    rw (cell4, cell5, cell6, cell7) refl
short eight n h = refl

rest_is : (w : Width) → none (8 - size w) ≡ drop (size w) (none 8)
rest_is one = refl
rest_is two = refl
rest_is four = refl
rest_is eight = refl

-- the word of the bytes that were written is the number
pub word_again : (w : Width) (n : ℕ) → n < 256 ^ size w → n < 2 ^ 64 → from_le_bytes w64 (take (size w) (to_le_bytes w64 n)) ≡ n
word_again w n h k =
    let front = take (size w) (to_le_bytes w64 n) in
    let padded : to_le_bytes w64 n ≡ front ++ drop (size w) (none 8) = short w n h ∙ ap (λ (zs : List ℕ). front ++ zs) (rest_is w) in
    sym (word-padded front (to_le_bytes w64 n) (size w) 8 padded) ∙ from_le_bytes-to_le_bytes_8 n k

none_at : (w : Width) (i : ℕ) → get_or (drop (size w) (none 8)) i 0 ≡ 0
none_at w i = rw get_or-drop (zero_at 8 (size w + i))

length-none : (w : Width) → size w + length (drop (size w) (none 8)) ≡ 8
length-none one = refl
length-none two = refl
length-none four = refl
length-none eight = refl

AreBytes-padded : (front : List ℕ) (w : Width) → AreBytes front → AreBytes (front ++ drop (size w) (none 8))
AreBytes-padded front w fits i = subst (λ n. n < 256) (sym (padded_at front (size w) 8 i)) (fits i)

-- the bytes of the word that was read are those bytes
pub bytes_again : (w : Width) (front : List ℕ) → length front ≡ size w → AreBytes front → take (size w) (to_le_bytes w64 (from_le_bytes w64 front)) ≡ front
bytes_again w front len fits =
    let block = front ++ drop (size w) (none 8) in
    let word : from_le_bytes w64 block ≡ from_le_bytes w64 front = word-padded front block (size w) 8 refl in
    let long : length block ≡ 8 = length-append front (drop (size w) (none 8)) ∙ ap (λ n. n + length (drop (size w) (none 8))) len ∙ length-none w in
    ap (take (size w)) (le_bytes_8 block (from_le_bytes w64 front) long (AreBytes-padded front w fits) (sym word)) ∙ take_at front (drop (size w) (none 8)) (size w) len

pub within_word : (w : Width) (n : ℕ) → n < 256 ^ size w → n < 2 ^ 64
within_word one n h = omega arith
within_word two n h = omega arith
within_word four n h = omega arith
within_word eight n h = omega arith

past : (front : List ℕ) (n k : ℕ) → length front ≡ n → n ≤ k → get_or front k 0 ≡ 0
past front n k len le = get_or_past front k 0 (omega arith)

-- the word of bytes is below the power of their count
pub size-word : (w : Width) (front : List ℕ) → length front ≡ size w → AreBytes front → from_le_bytes w64 front < 256 ^ size w
size-word one front len fits =
    rw (past front 1 1 len (omega arith), past front 1 2 len (omega arith), past front 1 3 len (omega arith), past front 1 4 len (omega arith), past front 1 5 len (omega arith), past front 1 6 len (omega arith), past front 1 7 len (omega arith))
    (omega (arith, fits 0))
size-word two front len fits =
    rw (past front 2 2 len (omega arith), past front 2 3 len (omega arith), past front 2 4 len (omega arith), past front 2 5 len (omega arith), past front 2 6 len (omega arith), past front 2 7 len (omega arith))
    (omega (arith, fits 0, fits 1))
size-word four front len fits =
    rw (past front 4 4 len (omega arith), past front 4 5 len (omega arith), past front 4 6 len (omega arith), past front 4 7 len (omega arith))
    (omega (arith, fits 0, fits 1, fits 2, fits 3))
size-word eight front len fits = omega (arith, fits 0, fits 1, fits 2, fits 3, fits 4, fits 5, fits 6, fits 7)

-- four bytes of a number do not show what is above them
pub low_four : (n : ℕ) → n < 2 ^ 32 → take 4 (to_le_bytes w64 (n + (2 ^ 64 - 2 ^ 32))) ≡ take 4 (to_le_bytes w64 n)
low_four n h =
    let cell0 : (n + (2 ^ 64 - 2 ^ 32)) % 256 ≡ n % 256 = omega arith in
    let cell1 : (n + (2 ^ 64 - 2 ^ 32)) / 256 % 256 ≡ n / 256 % 256 = omega arith in
    let cell2 : (n + (2 ^ 64 - 2 ^ 32)) / 65536 % 256 ≡ n / 65536 % 256 = omega arith in
    let cell3 : (n + (2 ^ 64 - 2 ^ 32)) / 16777216 % 256 ≡ n / 16777216 % 256 = omega arith in
    λ i. cell0 i ∷ cell1 i ∷ cell2 i ∷ cell3 i ∷ []
