-- Numbers of fields that count nothing.
use Rattle.std.proofs.Common.{◌≡◌, ℕ, zero, suc, ◌<◌, ◌≤◌, ℤ, pos, int_le, Bool, true, false, List, [], ◌∷◌, ◌++◌, length, unsigned_abs, ◌&&◌, Some, refl, sym, ap, ◌∙◌, subst, arith}
use Rattle.std.specs.Prelude.{⊤, ◌==◌, slice_get, slice_index_or}
use Rattle.std.specs.List.{list_all}
use Rattle.std.proofs.lemmas.Bool.{and_parts, eqb-true}
use Rattle.std.proofs.lemmas.Int.{ints}
use Rattle.aid_types.specs.Ranges.{IsWithin}
use Rattle.format_kinds.specs.Sections.{IsNext}
use Rattle.format_table.specs.Layout.{AreNumbers, after, rows}
use Rattle.format_table.specs.Limits.{fits, is_between}
use Rattle.format_table.proofs.LayoutLemmas.{cut-zero}
use Rattle.format_table.specs.Parts.{Line, Slot}
use Rattle.format_table.specs.declared.field.Limit.{Limit}
use Rattle.format_table.specs.declared.field.Limit.TheVariants.{Between, UpToLast, AboveRow, Continues, Begins}

pub is_within : (low high z : ℤ) → is_between low high z ≡ true → IsWithin low high z
is_within low high z h =
    let both = and_parts (int_le low z) (int_le z high) h in
    (omega (arith, ints, both.0), omega (arith, ints, both.1))

-- a number within its limit, if that is from one number to another
abbrev pub IsUpTo : Limit → ℤ → Type 0
IsUpTo (Between low high) z = IsWithin low high z
IsUpTo (UpToLast low) z = ⊤
IsUpTo (AboveRow high) z = ⊤
IsUpTo (Continues high) z = ⊤
IsUpTo (Begins high) z = ⊤

fits-up_to : (limit : Limit) (earlier : List ℤ) (z : ℤ) → fits limit earlier z ≡ true → IsUpTo limit z
fits-up_to (Between low high) earlier z h = is_within low high z h
fits-up_to (UpToLast low) earlier z h = tt
fits-up_to (AboveRow high) earlier z h = tt
fits-up_to (Continues high) earlier z h = tt
fits-up_to (Begins high) earlier z h = tt

abbrev pub is_empty : List Line → Bool
is_empty [] = true
is_empty (line ∷ lines) = false

pub empty_lines : (lines : List Line) → is_empty lines ≡ true → lines ≡ []
empty_lines [] h = refl
empty_lines (line ∷ lines) h = cc

abbrev pub is_plain : Slot → Bool
is_plain slot = is_empty slot.first && (slot.ends == 0)

-- what is behind the number of a field that leaves all
pub behind_all : (slot : Slot) (slots : List Slot) (earlier zs : List ℤ) (z : ℤ) → slot.ends ≡ 0 → AreNumbers (after (slot ∷ slots) z) earlier zs
    → AreNumbers (rows (unsigned_abs z) slot.first slot.later ++ slots) earlier zs
behind_all slot slots earlier zs z none k =
    subst (λ (s : List Slot). AreNumbers (rows (unsigned_abs z) slot.first slot.later ++ s) earlier zs) (cut-zero slot.ends z slots none) k

-- and of one that counts nothing either
after_plain : (slot : Slot) (slots : List Slot) (z : ℤ) → is_plain slot ≡ true → after (slot ∷ slots) z ≡ slots
after_plain slot slots z h =
    let both = and_parts (is_empty slot.first) (slot.ends == 0) h in
    ap (λ (s : List Slot). rows (unsigned_abs z) slot.first slot.later ++ s) (cut-zero slot.ends z slots (eqb-true slot.ends 0 both.1))
    ∙ ap (λ (lines : List Line). rows (unsigned_abs z) lines slot.later ++ slots) (empty_lines slot.first both.0)

pub behind_plain : (slot : Slot) (slots : List Slot) (earlier zs : List ℤ) (z : ℤ) → is_plain slot ≡ true → AreNumbers (slot ∷ slots) earlier (z ∷ zs) → AreNumbers slots (z ∷ earlier) zs
behind_plain slot slots earlier zs z h k =
    subst (λ (s : List Slot). AreNumbers s (z ∷ earlier) zs) (after_plain slot slots z h) k.1

pub before_plain : (slot : Slot) (slots : List Slot) (earlier zs : List ℤ) (z : ℤ) → is_plain slot ≡ true → AreNumbers slots earlier zs → AreNumbers (after (slot ∷ slots) z) earlier zs
before_plain slot slots earlier zs z h k = subst (λ (s : List Slot). AreNumbers s earlier zs) (sym (after_plain slot slots z h)) k

-- the number of each is within its limit
pub number_of : (slots later : List Slot) (earlier xs ys : List ℤ) → list_all is_plain slots ≡ true → AreNumbers (slots ++ later) earlier (xs ++ ys)
    → (k : ℕ) (slot : Slot) → k < length xs → slice_get slots k ≡ Some slot → IsUpTo slot.line.limit (slice_index_or xs k (pos 0))
number_of [] later earlier xs ys h n k slot l e = cc
number_of (first ∷ slots) later earlier [] ys h n k slot l e = absurd (omega arith)
number_of (first ∷ slots) later earlier (x ∷ xs) ys h n zero slot l e =
    let same : first ≡ slot = cc in
    subst (λ (s : Slot). IsUpTo s.line.limit x) same (fits-up_to first.line.limit earlier x n.0)
number_of (first ∷ slots) later earlier (x ∷ xs) ys h n (suc k) slot l e =
    let both = and_parts (is_plain first) (list_all is_plain slots) h in
    number_of slots later (x ∷ earlier) xs ys both.1 (behind_plain first (slots ++ later) earlier (xs ++ ys) x both.0 n) k slot (omega arith) e

pub each_of : (slots : List Slot) (zs xs ys : List ℤ) → list_all is_plain slots ≡ true → IsNext slots zs → zs ≡ xs ++ ys
    → (k : ℕ) (slot : Slot) → k < length xs → slice_get slots k ≡ Some slot → IsUpTo slot.line.limit (slice_index_or xs k (pos 0))
each_of slots zs xs ys h next e k slot l f =
    number_of slots next.later next.earlier xs ys h (subst (λ (l : List ℤ). AreNumbers (slots ++ next.later) next.earlier l) e next.numbers) k slot l f

-- numbers of so many fields are at least as many
pub as_many : (slots later : List Slot) (earlier zs : List ℤ) → list_all is_plain slots ≡ true → AreNumbers (slots ++ later) earlier zs → length slots ≤ length zs
as_many [] later earlier zs h n = omega arith
as_many (slot ∷ slots) later earlier [] h n = absurd n
as_many (slot ∷ slots) later earlier (z ∷ zs) h n =
    let both = and_parts (is_plain slot) (list_all is_plain slots) h in
    omega (arith, as_many slots later (z ∷ earlier) zs both.1 (behind_plain slot (slots ++ later) earlier zs z both.0 n))

pub enough : (n : ℕ) (slots : List Slot) (zs : List ℤ) → list_all is_plain slots ≡ true → length slots ≡ n → IsNext slots zs → n ≤ length zs
enough n slots zs h count next = subst (λ (m : ℕ). m ≤ length zs) count (as_many slots next.later next.earlier zs h next.numbers)

-- so many numbers of an array, one by one
pub four_first : (xs ys : List ℤ) → length xs ≡ 4 → xs ++ ys ≡ slice_index_or xs 0 (pos 0) ∷ slice_index_or xs 1 (pos 0) ∷ slice_index_or xs 2 (pos 0) ∷ slice_index_or xs 3 (pos 0) ∷ ys
four_first (a ∷ b ∷ c ∷ d ∷ []) ys count = refl
four_first xs ys count = absurd (omega arith)

pub five_first : (xs ys : List ℤ) → length xs ≡ 5 → xs ++ ys ≡ slice_index_or xs 0 (pos 0) ∷ slice_index_or xs 1 (pos 0) ∷ slice_index_or xs 2 (pos 0) ∷ slice_index_or xs 3 (pos 0) ∷ slice_index_or xs 4 (pos 0) ∷ ys
five_first (a ∷ b ∷ c ∷ d ∷ e ∷ []) ys count = refl
five_first xs ys count = absurd (omega arith)

pub six_first : (xs ys : List ℤ) → length xs ≡ 6 → xs ++ ys ≡ slice_index_or xs 0 (pos 0) ∷ slice_index_or xs 1 (pos 0) ∷ slice_index_or xs 2 (pos 0) ∷ slice_index_or xs 3 (pos 0) ∷ slice_index_or xs 4 (pos 0) ∷ slice_index_or xs 5 (pos 0) ∷ ys
six_first (a ∷ b ∷ c ∷ d ∷ e ∷ f ∷ []) ys count = refl
six_first xs ys count = absurd (omega arith)

pub seven_first : (xs ys : List ℤ) → length xs ≡ 7 → xs ++ ys ≡ slice_index_or xs 0 (pos 0) ∷ slice_index_or xs 1 (pos 0) ∷ slice_index_or xs 2 (pos 0) ∷ slice_index_or xs 3 (pos 0) ∷ slice_index_or xs 4 (pos 0) ∷ slice_index_or xs 5 (pos 0) ∷ slice_index_or xs 6 (pos 0) ∷ ys
seven_first (a ∷ b ∷ c ∷ d ∷ e ∷ f ∷ g ∷ []) ys count = refl
seven_first xs ys count = absurd (omega arith)
