-- The bytes of numbers, one number after the other.
use Rattle.std.proofs.Common.{◌≡◌, ℕ, ◌+◌, ◌<◌, ℤ, List, [], ◌∷◌, ◌++◌, length, drop, get_or, Some, None, refl, sym, ap, subst, ◌∙◌, drop-cons, add-one, append_assoc}
use Rattle.std.specs.Prelude.{option_map, slice_get}
use Rattle.format_table.specs.Spelling.{number_bytes, numbers_bytes}
use Rattle.format_table.specs.Layout.{after}
use Rattle.format_table.specs.Parts.{Line, Slot}

line_is : (a b : Line) → Some a ≡ Some b → b ≡ a
line_is a b e = cc

numbers_bytes-next : (slots : List Slot) (numbers : List ℤ) (i : ℕ) (line : Line) (z : ℤ) → Some line ≡ option_map (λ slot. slot.line) (slice_get slots 0) → i < length numbers
    → numbers_bytes slots (drop i numbers) ≡ number_bytes line.form (get_or numbers i z) ++ numbers_bytes (after slots (get_or numbers i z)) (drop (i + 1) numbers)
numbers_bytes-next [] numbers i line z e lt = absurd (cc)
numbers_bytes-next (slot ∷ slots) numbers i line z e lt =
    let P : Line → Type 0 = λ l. numbers_bytes (slot ∷ slots) (drop i numbers) ≡ number_bytes l.form (get_or numbers i z) ++ numbers_bytes (after (slot ∷ slots) (get_or numbers i z)) (drop (i + 1) numbers) in
    subst P (line_is line slot.line e) (rw (add-one, drop-cons numbers i z) refl)

-- after the next number the bytes so far and those to come are still the same
pub adds_next : (slots behind : List Slot) (numbers : List ℤ) (i : ℕ) (line : Line) (z number : ℤ) (before bytes total : List ℕ) → Some line ≡ option_map (λ slot. slot.line) (slice_get slots 0)
    → i < length numbers → number ≡ get_or numbers i z → bytes ≡ before ++ number_bytes line.form number → behind ≡ after slots number
    → before ++ numbers_bytes slots (drop i numbers) ≡ total
    → bytes ++ numbers_bytes behind (drop (i + 1) numbers) ≡ total
adds_next slots behind numbers i line z number before bytes total e lt is next b so_far =
    let rest = numbers_bytes (after slots (get_or numbers i z)) (drop (i + 1) numbers) in
    rw (next, b, is) (append_assoc before (number_bytes line.form (get_or numbers i z)) rest
    ∙ ap (λ (bs : List ℕ). before ++ bs) (sym (numbers_bytes-next slots numbers i line z e lt)) ∙ so_far)

none_first : (slots : List Slot) → None ≡ option_map (λ slot. slot.line) (slice_get slots 0) → slots ≡ []
none_first [] e = refl
none_first (slot ∷ slots) e = absurd (cc)

numbers_bytes-none : (numbers : List ℤ) → numbers_bytes [] numbers ≡ []
numbers_bytes-none [] = refl
numbers_bytes-none (z ∷ zs) = refl

-- where no number is to come there are no more bytes
pub adds_none : (slots : List Slot) (numbers : List ℤ) (i : ℕ) (before total : List ℕ) → None ≡ option_map (λ slot. slot.line) (slice_get slots 0)
    → before ++ numbers_bytes slots (drop i numbers) ≡ total → before ++ numbers_bytes slots (drop (i + 1) numbers) ≡ total
adds_none slots numbers i before total e so_far =
    let P : List Slot → Type 0 = λ s. numbers_bytes s (drop (i + 1) numbers) ≡ numbers_bytes s (drop i numbers) in
    let same = subst P (sym (none_first slots e)) (numbers_bytes-none (drop (i + 1) numbers) ∙ sym (numbers_bytes-none (drop i numbers))) in
    ap (λ bs. before ++ bs) same ∙ so_far
