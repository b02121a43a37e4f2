-- The rows and the parts that are still to come.
use Rattle.std.proofs.Common.{◌≡◌, ℕ, zero, suc, ◌-◌, ℤ, pos, int_lt, List, [], ◌∷◌, ◌++◌, drop, take, refl, sym, ap, ◌∙◌, subst, true, false, Bor, Option, Some, None, length, arith}
use Rattle.std.specs.Prelude.{◌==◌, ◌&&◌, is_some, option_map, slice_get, unsigned_abs}
use Rattle.std.proofs.lemmas.Bool.{and_parts, eqb-true}
use Rattle.std.proofs.lemmas.List.{length-map, take-map, take_all}
use Rattle.format_table.specs.Layout.{after, cut, plain, rows, rows_again}
use Rattle.format_table.specs.Parts.{Line, Slot, line_of, lines_of, slot_of, slots_of}
use Rattle.format_table.specs.Tables.{are_plain, has_none}
use Rattle.format_table.specs.declared.field.Field.{Field}
use Rattle.format_table.specs.declared.field.Part.{Part}

-- rows of no fields
pub rows_again-nil : (n : ℕ) → rows_again n [] ≡ []
rows_again-nil zero = refl
rows_again-nil (suc n) = rows_again-nil n

pub no_rows : (n : ℕ) (fields : List Field) → fields ≡ [] → rows_again n (lines_of fields) ≡ []
no_rows n [] e = rows_again-nil n
no_rows n (field ∷ fields) e = absurd (cc)

-- no slot is first in a list just where it is empty
pub none_first : (slots : List Slot) → slice_get slots 0 ≡ None → slots ≡ []
none_first [] e = refl
none_first (slot ∷ slots) e = absurd (cc)

-- what is behind a field of a row
plain_first : (slots behind : List Slot) (line : Line) (z : ℤ) → slice_get slots 0 ≡ Some (plain line) → drop 1 slots ++ behind ≡ after (slots ++ behind) z
plain_first [] behind line z e = absurd (cc)
plain_first (slot ∷ slots) behind line z e =
    let f : plain line ≡ slot = (cc) in
    let P : Slot → Type 0 = λ s. drop 1 (s ∷ slots) ++ behind ≡ after ((s ∷ slots) ++ behind) z in
    subst P f refl

is_plain : (result : Option (Bor Field)) (first : Option Slot) → option_map (λ field. plain (line_of field.now)) result ≡ first → is_some result ≡ true → (line : Line) × (first ≡ Some (plain line))
is_plain None first e h = absurd (cc)
is_plain (Some field) first e h = (line_of field.now, sym e)

pub after_row : (result : Option (Bor Field)) (slots behind whole : List Slot) (z : ℤ) → option_map (λ field. plain (line_of field.now)) result ≡ slice_get slots 0 → is_some result ≡ true → slots ++ behind ≡ whole → drop 1 slots ++ behind ≡ after whole z
after_row result slots behind whole z e h w =
    let found = is_plain result (slice_get slots 0) e h in
    plain_first slots behind found.0 z found.1 ∙ ap (λ s. after s z) w

not_one : (result : Option (Bor Field)) (slots : List Slot) → option_map (λ field. plain (line_of field.now)) result ≡ slice_get slots 0 → is_some result ≡ false → slots ≡ []
not_one None slots e h = none_first slots (sym e)
not_one (Some field) slots e h = absurd (cc)

-- ---- what a number leaves
pub cut-zero : (n : ℕ) (z : ℤ) (slots : List Slot) → n ≡ 0 → cut n z slots ≡ slots
cut-zero zero z slots e = refl
cut-zero (suc n) z slots e = absurd (omega arith)

pub cut-below : (n : ℕ) (z : ℤ) (slots : List Slot) → int_lt (pos 1) z ≡ false → cut n z slots ≡ take (length slots - n) slots
cut-below zero z slots e = sym (take_all (length slots - 0) slots (omega arith))
cut-below (suc n) z slots e = rw e refl

-- the same of parts
pub cut-parts : (n : ℕ) (z : ℤ) (parts left : List Part) → int_lt (pos 1) z ≡ false → left ≡ take (length parts - n) parts → slots_of left ≡ cut n z (slots_of parts)
cut-parts n z parts left e l =
    let few : length parts ≡ length (slots_of parts) = sym (length-map parts slot_of) in
    rw (l, few) (sym (take-map slot_of (length (slots_of parts) - n) parts) ∙ sym (cut-below n z (slots_of parts) e))

-- a part that leaves all
first_ends : (part : Part) (rest : List Part) → are_plain (slots_of (part ∷ rest)) ≡ true → part.ends ≡ 0
first_ends part rest h =
    let first = and_parts (has_none (slot_of part).first && (part.ends == 0)) (are_plain (slots_of rest)) h in
    eqb-true part.ends 0 (and_parts (has_none (slot_of part).first) (part.ends == 0) first.0).1

-- what is behind a part of a key
pub after_part : (result : Option (Bor Field)) (slots : List Slot) (part : Part) (rest : List Part) (parts : List Part) (behind whole : List Slot) (z : ℤ)
    → option_map (λ field. plain (line_of field.now)) result ≡ slice_get slots 0 → is_some result ≡ false → parts ≡ part ∷ rest → are_plain (slots_of parts) ≡ true → slots ++ (slots_of parts ++ behind) ≡ whole
    → rows (unsigned_abs z) (slot_of part).first (slot_of part).later ++ (slots_of rest ++ behind) ≡ after whole z
after_part result slots part rest parts behind whole z e h p none w =
    let empty = not_one result slots e h in
    let P : List Slot → Type 0 = λ s. s ++ (slots_of parts ++ behind) ≡ whole in
    let Q : List Part → Type 0 = λ ps. slots_of ps ++ behind ≡ whole in
    let R : List Part → Type 0 = λ ps. are_plain (slots_of ps) ≡ true in
    let leaves = cut-zero part.ends z (slots_of rest ++ behind) (first_ends part rest (subst R p none)) in
    ap (λ s. rows (unsigned_abs z) (slot_of part).first (slot_of part).later ++ s) (sym leaves) ∙ ap (λ s. after s z) (subst Q p (subst P empty w))

no_parts : (parts : List Part) → length parts ≡ 0 → parts ≡ []
no_parts [] e = refl
no_parts (part ∷ parts) e = absurd (omega arith)

-- the same where no part of the key is left
pub after_last_part : (result : Option (Bor Field)) (slots : List Slot) (part : Part) (rest left : List Part) (parts key : List Part) (whole : List Slot) (z : ℤ)
    → option_map (λ field. plain (line_of field.now)) result ≡ slice_get slots 0 → is_some result ≡ false → length key ≡ 0 → parts ≡ part ∷ rest → slots_of left ≡ cut part.ends z (slots_of rest)
    → slots ++ (slots_of key ++ slots_of parts) ≡ whole
    → rows (unsigned_abs z) (slot_of part).first (slot_of part).later ++ (slots_of key ++ slots_of left) ≡ after whole z
after_last_part result slots part rest left parts key whole z e h k p l w =
    let none = no_parts key k in
    let empty = not_one result slots e h in
    let P : List Slot → Type 0 = λ s. s ++ (slots_of key ++ slots_of parts) ≡ whole in
    let Q : List Part → Type 0 = λ ps. slots_of key ++ slots_of ps ≡ whole in
    let R : List Part → Type 0 = λ ks. slots_of ks ++ (slot_of part ∷ slots_of rest) ≡ whole in
    let S : List Part → Type 0 = λ ks. rows (unsigned_abs z) (slot_of part).first (slot_of part).later ++ (slots_of ks ++ slots_of left) ≡ after whole z in
    subst S (sym none) (ap (λ s. rows (unsigned_abs z) (slot_of part).first (slot_of part).later ++ s) l ∙ ap (λ s. after s z) (subst R none (subst Q p (subst P empty w))))

no_part : (parts : List Part) → None ≡ slice_get parts 0 → parts ≡ []
no_part [] e = refl
no_part (part ∷ parts) e = absurd (cc)

-- the first part where no row and no part of the key is left
pub first_part : (slots : List Slot) (key parts : List Part) (part : Part) (whole : List Slot) → None ≡ slice_get slots 0 → None ≡ slice_get key 0 → Some part ≡ slice_get parts 0
    → slots ++ (slots_of key ++ slots_of parts) ≡ whole → Some (line_of part.field) ≡ option_map (λ slot. slot.line) (slice_get whole 0)
first_part slots key [] part whole e k p w = absurd (cc)
first_part slots key (first ∷ parts) part whole e k p w =
    let P : List Slot → Type 0 = λ s. s ++ (slots_of key ++ slots_of (first ∷ parts)) ≡ whole in
    let Q : List Part → Type 0 = λ ks. slots_of ks ++ slots_of (first ∷ parts) ≡ whole in
    let f : part ≡ first = (cc) in
    let whole_is = subst Q (no_part key k) (subst P (none_first slots (sym e)) w) in
    ap (λ q. Some (line_of q.field)) f ∙ ap (λ s. option_map (λ slot. slot.line) (slice_get s 0)) whole_is
