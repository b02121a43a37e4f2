-- What holds of each filing's numbers by the table of kinds: they have room in their bytes, and there are not more than the most.
use Rattle.std.proofs.Common.{◌≡◌, ℕ, zero, suc, ◌+◌, ◌-◌, ◌*◌, ◌≤◌, ◌^◌, max, ℤ, pos, neg_ℤ, ◌≤ℤ◌, int_le, int_lt, unsigned_abs, Bool, true, false, ◌&&◌, List, [], ◌∷◌, ◌++◌, All, length, map, take, refl, ◌∙◌, arith}
use Rattle.std.specs.Prelude.{if◌then◌else◌}
use Rattle.std.specs.Ordering.{int_eq}
use Rattle.std.specs.List.{list_all}
use Rattle.std.proofs.lemmas.Bool.{and_parts, and_from}
use Rattle.std.proofs.lemmas.Int.{ints}
use Rattle.std.proofs.lemmas.Nat.{mul-le}
use Rattle.std.proofs.lemmas.List.Folds.{list_all-append}
use Rattle.format_table.specs.Forms.{IsHeld, IsTable, are_sound, highest, holds, is_sound_slot, limit_holds, line_holds, lowest, may_count, most_behind, most_numbers, most_of, most_rows}
use Rattle.format_table.specs.Layout.{AreNumbers, after, cut, plain, rows, rows_again}
use Rattle.format_table.specs.Limits.{IsNarrow, before, fits, is_between, value_in_row}
use Rattle.format_table.specs.Parts.{Line, Slot}
use Rattle.format_table.specs.declared.field.Form.{Form}
use Rattle.format_table.specs.declared.field.Form.TheVariants.{U8, U16, U32, U64, I64, Cents, Day, Flag, Word, Count}
use Rattle.format_table.specs.declared.field.Limit.{Limit}
use Rattle.format_table.specs.declared.field.Limit.TheVariants.{Between, UpToLast, AboveRow, Continues, Begins}

-- ---- a number within its limit
pub IsHeld-IsNarrow : (form : Form) (z : ℤ) → IsHeld form z → IsNarrow z
IsHeld-IsNarrow U8 z h = omega (arith, ints, h.low, h.high)
IsHeld-IsNarrow U16 z h = omega (arith, ints, h.low, h.high)
IsHeld-IsNarrow U32 z h = omega (arith, ints, h.low, h.high)
IsHeld-IsNarrow U64 z h = omega (arith, ints, h.low, h.high)
IsHeld-IsNarrow I64 z h = omega (arith, ints, h.low, h.high)
IsHeld-IsNarrow Cents z h = omega (arith, ints, h.low, h.high)
IsHeld-IsNarrow Day z h = omega (arith, ints, h.low, h.high)
IsHeld-IsNarrow Flag z h = omega (arith, ints, h.low, h.high)
IsHeld-IsNarrow Word z h = omega (arith, ints, h.low, h.high)
IsHeld-IsNarrow Count z h = omega (arith, ints, h.low, h.high)

-- each number before is narrow, also where there is none
IsNarrow-before : (earlier : List ℤ) → All IsNarrow earlier → (k : ℕ) → IsNarrow (before earlier k)
IsNarrow-before [] h k = omega arith
IsNarrow-before (z ∷ zs) h zero = h 0 (pos 0) (omega arith)
IsNarrow-before (z ∷ zs) h (suc k) = IsNarrow-before zs (λ i d below. h (suc i) d (omega arith)) k

held_between : (form : Form) (low high z : ℤ) (a b : ℤ) → holds form a b ≡ true → a ≤ℤ low → high ≤ℤ b → low ≤ℤ z → z ≤ℤ high → IsHeld form z
held_between form low high z a b h la hb lz zh =
    let ends = and_parts (int_le (lowest form) a) (int_le b (highest form)) h in
    record { low = omega (arith, ints, ends.0); high = omega (arith, ints, ends.1) }

pub fits-IsHeld : (form : Form) (limit : Limit) (earlier : List ℤ) (z : ℤ) → limit_holds form limit ≡ true → All IsNarrow earlier → fits limit earlier z ≡ true → IsHeld form z
fits-IsHeld form (Between low high) earlier z sound h f =
    let x = and_parts (int_le low z) (int_le z high) f in
    let s = and_parts (int_le (lowest form) low) (int_le high (highest form)) sound in
    record { low = omega (arith, ints, s.0, x.0); high = omega (arith, ints, s.1, x.1) }
fits-IsHeld form (UpToLast low) earlier z sound h f =
    let x = and_parts (int_le low z) (int_le z (before earlier 0)) f in
    let s = and_parts (int_le (lowest form) low) (int_le (pos (10 ^ 12)) (highest form)) sound in
    let n = IsNarrow-before earlier h 0 in
    record { low = omega (arith, ints, s.0, x.0); high = omega (arith, ints, s.1, x.1, n) }
fits-IsHeld form (AboveRow high) earlier z sound h f =
    let x = and_parts (int_lt (before earlier 2) z) (int_le z high) f in
    let s = and_parts (int_le (lowest form) (neg_ℤ (pos (10 ^ 12)))) (int_le high (highest form)) sound in
    let n = IsNarrow-before earlier h 2 in
    record { low = omega (arith, ints, s.0, x.0, n); high = omega (arith, ints, s.1, x.1) }
fits-IsHeld form (Continues high) earlier z sound h f =
    let x = and_parts (int_eq z (value_in_row earlier)) (is_between (pos 0) high z) f in
    let y = and_parts (int_le (pos 0) z) (int_le z high) x.1 in
    let s = and_parts (int_le (lowest form) (pos 0)) (int_le high (highest form)) sound in
    record { low = omega (arith, ints, s.0, y.0); high = omega (arith, ints, s.1, y.1) }
fits-IsHeld form (Begins high) earlier z sound h f =
    let x = and_parts _ (is_between (pos 0) high z) f in
    let y = and_parts (int_le (pos 0) z) (int_le z high) x.1 in
    let s = and_parts (int_le (lowest form) (pos 0)) (int_le high (highest form)) sound in
    record { low = omega (arith, ints, s.0, y.0); high = omega (arith, ints, s.1, y.1) }

-- ---- what is to come after a number
-- what holds of a list and of each beginning of it holds of what a number leaves of it
cut_by_test : (P : List Slot → Type 0) (b : Bool) (xs ys : List Slot) → P xs → P ys → P (if b then ys else xs)
cut_by_test P true xs ys h k = k
cut_by_test P false xs ys h k = h

pub of_cut : (P : List Slot → Type 0) (n : ℕ) (z : ℤ) (slots : List Slot) → ((k : ℕ) → P (take k slots)) → P slots → P (cut n z slots)
of_cut P zero z slots begins whole = whole
of_cut P (suc n) z slots begins whole = cut_by_test P (int_lt (pos 1) z) (take (length slots - suc n) slots) slots (begins (length slots - suc n)) whole

-- the parts of a slot's test
pub record IsSound (slot : Slot) : Type 0 where
  pub line : line_holds slot.line ≡ true
  pub first : list_all line_holds slot.first ≡ true
  pub later : list_all line_holds slot.later ≡ true
  pub counts : may_count slot.first slot.line.limit ≡ true

pub IsSound-slot : (slot : Slot) → is_sound_slot slot ≡ true → IsSound slot
IsSound-slot slot h =
    let x = and_parts (line_holds slot.line && list_all line_holds slot.first && list_all line_holds slot.later) (may_count slot.first slot.line.limit) h in
    let y = and_parts (line_holds slot.line && list_all line_holds slot.first) (list_all line_holds slot.later) x.0 in
    let z = and_parts (line_holds slot.line) (list_all line_holds slot.first) y.0 in
    record { line = z.0; first = z.1; later = y.1; counts = x.1 }

are_sound-plain : (lines : List Line) → list_all line_holds lines ≡ true → are_sound (map plain lines) ≡ true
are_sound-plain [] h = refl
are_sound-plain (line ∷ lines) h =
    let x = and_parts (line_holds line) (list_all line_holds lines) h in
    and_from (is_sound_slot (plain line)) (are_sound (map plain lines)) (rw x.0 refl) (are_sound-plain lines x.1)

pub are_sound-append : (xs ys : List Slot) → are_sound xs ≡ true → are_sound ys ≡ true → are_sound (xs ++ ys) ≡ true
are_sound-append xs ys h k = list_all-append is_sound_slot xs ys ∙ and_from (are_sound xs) (are_sound ys) h k

are_sound-rows_again : (n : ℕ) (lines : List Line) → list_all line_holds lines ≡ true → are_sound (rows_again n lines) ≡ true
are_sound-rows_again zero lines h = refl
are_sound-rows_again (suc n) lines h = are_sound-append (map plain lines) (rows_again n lines) (are_sound-plain lines h) (are_sound-rows_again n lines h)

are_sound-rows : (n : ℕ) (first later : List Line) → list_all line_holds first ≡ true → list_all line_holds later ≡ true → are_sound (rows n first later) ≡ true
are_sound-rows n [] later h k = refl
are_sound-rows zero (line ∷ lines) later h k = refl
are_sound-rows (suc n) (line ∷ lines) later h k =
    are_sound-append (map plain (line ∷ lines)) (rows_again n later) (are_sound-plain (line ∷ lines) h) (are_sound-rows_again n later k)

are_sound-take : (k : ℕ) (slots : List Slot) → are_sound slots ≡ true → are_sound (take k slots) ≡ true
are_sound-take zero slots h = refl
are_sound-take (suc k) [] h = refl
are_sound-take (suc k) (slot ∷ slots) h =
    let x = and_parts (is_sound_slot slot) (are_sound slots) h in
    and_from (is_sound_slot slot) (are_sound (take k slots)) x.0 (are_sound-take k slots x.1)

are_sound-cut : (n : ℕ) (z : ℤ) (slots : List Slot) → are_sound slots ≡ true → are_sound (cut n z slots) ≡ true
are_sound-cut n z slots h = of_cut (λ s. are_sound s ≡ true) n z slots (λ k. are_sound-take k slots h) h

pub are_sound-after : (slot : Slot) (slots : List Slot) (z : ℤ) → are_sound (slot ∷ slots) ≡ true → are_sound (after (slot ∷ slots) z) ≡ true
are_sound-after slot slots z h =
    let x = and_parts (is_sound_slot slot) (are_sound slots) h in
    let s = IsSound-slot slot x.0 in
    are_sound-append (rows (unsigned_abs z) slot.first slot.later) (cut slot.ends z slots) (are_sound-rows (unsigned_abs z) slot.first slot.later s.first s.later) (are_sound-cut slot.ends z slots x.1)

-- ---- how many numbers
most_of-append : (xs ys : List Slot) → most_of (xs ++ ys) ≡ most_of xs + most_of ys
most_of-append [] ys = omega arith
most_of-append (x ∷ xs) ys = omega (arith, most_of-append xs ys)

most_of-take : (k : ℕ) (slots : List Slot) → most_of (take k slots) ≤ most_of slots
most_of-take zero slots = omega arith
most_of-take (suc k) [] = omega arith
most_of-take (suc k) (slot ∷ slots) = omega (arith, most_of-take k slots)

most_of-cut : (n : ℕ) (z : ℤ) (slots : List Slot) → most_of (cut n z slots) ≤ most_of slots
most_of-cut n z slots = of_cut (λ s. most_of s ≤ most_of slots) n z slots (λ k. most_of-take k slots) (omega arith)

most_of-plain : (lines : List Line) → most_of (map plain lines) ≡ length lines
most_of-plain [] = refl
most_of-plain (line ∷ lines) = omega (arith, most_of-plain lines)

most_of-rows_again : (n : ℕ) (lines : List Line) → most_of (rows_again n lines) ≡ n * length lines
most_of-rows_again zero lines = omega arith
most_of-rows_again (suc n) lines = omega (arith, most_of-append (map plain lines) (rows_again n lines), most_of-plain lines, most_of-rows_again n lines)

most_of-rows : (n most : ℕ) (first later : List Line) → n ≤ most → most_of (rows n first later) ≤ most * max (length first) (length later)
most_of-rows n most [] later h = omega arith
most_of-rows zero most (line ∷ lines) later h = omega arith
most_of-rows (suc n) most (line ∷ lines) later h =
    let e = most_of-append (map plain (line ∷ lines)) (rows_again n later) in
    let f = most_of-plain (line ∷ lines) in
    let g = most_of-rows_again n later in
    let columns = max (length (line ∷ lines)) (length later) in
    let x : n * length later ≤ n * columns = mul-le n (length later) n columns (omega arith) (omega arith) in
    let y : suc n * columns ≤ most * columns = mul-le (suc n) columns most columns h (omega arith) in
    omega (arith, e, f, g, x, y)

pub length-most_of : (slots : List Slot) → length slots ≤ most_of slots
length-most_of [] = omega arith
length-most_of (slot ∷ slots) = omega (arith, length-most_of slots)

few_rows : (line : Line) (lines : List Line) (limit : Limit) (earlier : List ℤ) (z : ℤ) → may_count (line ∷ lines) limit ≡ true → fits limit earlier z ≡ true → unsigned_abs z ≤ most_rows limit
few_rows line lines (Between low high) earlier z h f =
    let x = and_parts (int_le low z) (int_le z high) f in
    omega (arith, ints, x.0, x.1, h)
few_rows line lines (UpToLast low) earlier z h f = absurd (cc)
few_rows line lines (AboveRow high) earlier z h f = absurd (cc)
few_rows line lines (Continues high) earlier z h f = absurd (cc)
few_rows line lines (Begins high) earlier z h f = absurd (cc)

most_of_rows : (first later : List Line) (limit : Limit) (earlier : List ℤ) (z : ℤ) → may_count first limit ≡ true → fits limit earlier z ≡ true
    → most_of (rows (unsigned_abs z) first later) ≤ most_behind first later limit
most_of_rows [] later limit earlier z h f = omega arith
most_of_rows (line ∷ lines) later limit earlier z h f =
    most_of-rows (unsigned_abs z) (most_rows limit) (line ∷ lines) later (few_rows line lines limit earlier z h f)

-- one number takes one from the most that may come
pub most_of-after : (slot : Slot) (slots : List Slot) (earlier : List ℤ) (z : ℤ) → are_sound (slot ∷ slots) ≡ true → fits slot.line.limit earlier z ≡ true
    → 1 + most_of (after (slot ∷ slots) z) ≤ most_of (slot ∷ slots)
most_of-after slot slots earlier z h f =
    let x = and_parts (is_sound_slot slot) (are_sound slots) h in
    let s = IsSound-slot slot x.0 in
    omega (arith, most_of-append (rows (unsigned_abs z) slot.first slot.later) (cut slot.ends z slots), most_of-cut slot.ends z slots, most_of_rows slot.first slot.later slot.line.limit earlier z s.counts f)

pub AreNumbers-few : (slots : List Slot) (earlier zs : List ℤ) → are_sound slots ≡ true → AreNumbers slots earlier zs → length zs ≤ most_of slots
AreNumbers-few [] earlier [] h a = omega arith
AreNumbers-few [] earlier (z ∷ zs) h a = absurd a
AreNumbers-few (slot ∷ slots) earlier [] h a = absurd a
AreNumbers-few (slot ∷ slots) earlier (z ∷ zs) h a =
    omega (arith, most_of-after slot slots earlier z h a.0, AreNumbers-few (after (slot ∷ slots) z) (z ∷ earlier) zs (are_sound-after slot slots z h) a.1)

-- an entry of a table has at most so many numbers
pub few_in : (slots : List Slot) (zs : List ℤ) → IsTable slots → AreNumbers slots [] zs → length zs ≤ most_numbers
few_in slots zs table h = omega (arith, AreNumbers-few slots [] zs table.sound h, table.few)

pub All-IsNarrow-cons : (z : ℤ) (zs : List ℤ) → IsNarrow z → All IsNarrow zs → All IsNarrow (z ∷ zs)
All-IsNarrow-cons z zs h k zero d below = h
All-IsNarrow-cons z zs h k (suc i) d below = k i d (omega arith)

-- each number of a filing is narrow
pub AreNumbers-IsNarrow : (slots : List Slot) (earlier zs : List ℤ) → are_sound slots ≡ true → All IsNarrow earlier → AreNumbers slots earlier zs → All IsNarrow zs
AreNumbers-IsNarrow [] earlier [] h n a = λ k d below. absurd (omega arith)
AreNumbers-IsNarrow [] earlier (z ∷ zs) h n a = absurd a
AreNumbers-IsNarrow (slot ∷ slots) earlier [] h n a = absurd a
AreNumbers-IsNarrow (slot ∷ slots) earlier (z ∷ zs) h n a =
    let x = and_parts (is_sound_slot slot) (are_sound slots) h in
    let s = IsSound-slot slot x.0 in
    let narrow = IsHeld-IsNarrow slot.line.form z (fits-IsHeld slot.line.form slot.line.limit earlier z s.line n a.0) in
    All-IsNarrow-cons z zs narrow (AreNumbers-IsNarrow (after (slot ∷ slots) z) (z ∷ earlier) zs (are_sound-after slot slots z h) (All-IsNarrow-cons z earlier narrow n) a.1)

pub narrow_in : (slots : List Slot) (zs : List ℤ) → IsTable slots → AreNumbers slots [] zs → All IsNarrow zs
narrow_in slots zs table h = AreNumbers-IsNarrow slots [] zs table.sound (λ k d below. absurd (omega arith)) h
