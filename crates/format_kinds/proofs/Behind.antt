-- What is left behind a part of a book's numbers.
use Rattle.std.proofs.Common.{◌≡◌, ℕ, zero, suc, ◌*◌, ◌≤◌, ℤ, pos, true, List, [], ◌∷◌, ◌++◌, length, map, take, IsTrue, refl, sym, ap, ◌∙◌, subst, arith}
use Rattle.std.specs.Prelude.{flat_map}
use Rattle.std.specs.List.{list_all}
use Rattle.std.proofs.lemmas.Bool.{and_parts, and_from}
use Rattle.std.proofs.lemmas.Int.{ints}
use Rattle.std.proofs.lemmas.List.{length-append, length-map, length-take-le}
use Rattle.format_kinds.proofs.Plain.{as_many, behind_all, behind_plain, is_plain, is_within}
use Rattle.format_kinds.proofs.RowsOf.{IsAge, IsBrackets, IsBusiness, age_rows, brackets_rows, business_rows}
use Rattle.format_kinds.specs.Book.{age_numbers, age_row, bracket_numbers, bracket_row}
use Rattle.format_kinds.specs.Sections.{AreLast, AreLeft, IsNext, age_slots, bracket_slots, business_slots}
use Rattle.aid_books.specs.declared.ages.AgeRow.{AgeRow}
use Rattle.aid_books.specs.declared.marginal.Bracket.{Bracket}
use Rattle.format_table.specs.Columns.{one}
use Rattle.format_table.specs.declared.field.Form.TheVariants.{Count}
use Rattle.format_table.specs.Layout.{AreNumbers, plain, rows, rows_again}
use Rattle.format_table.specs.Limits.{fits}
use Rattle.format_table.specs.declared.field.Limit.{Limit}
use Rattle.format_table.specs.declared.field.Limit.TheVariants.{Between}
use Rattle.format_table.specs.Parts.{Line, Slot}

-- numbers read one after the other, newest first
abbrev pub onto : List ℤ → List ℤ → List ℤ
onto [] earlier = earlier
onto (x ∷ xs) earlier = onto xs (x ∷ earlier)

-- what is left behind the numbers of fields that count nothing
pub behind_plains : (slots later : List Slot) (earlier xs ys : List ℤ) → list_all is_plain slots ≡ true → length xs ≡ length slots → AreNumbers (slots ++ later) earlier (xs ++ ys)
    → AreNumbers later (onto xs earlier) ys
behind_plains [] later earlier [] ys h e n = n
behind_plains [] later earlier (x ∷ xs) ys h e n = absurd (omega arith)
behind_plains (slot ∷ slots) later earlier [] ys h e n = absurd (omega arith)
behind_plains (slot ∷ slots) later earlier (x ∷ xs) ys h e n =
    let both = and_parts (is_plain slot) (list_all is_plain slots) h in
    behind_plains slots later (x ∷ earlier) xs ys both.1 (omega arith) (behind_plain slot (slots ++ later) earlier (xs ++ ys) x both.0 n)

-- the fields of rows count nothing
plain-map : (lines : List Line) → list_all is_plain (map plain lines) ≡ true
plain-map [] = refl
plain-map (line ∷ lines) = and_from (is_plain (plain line)) (list_all is_plain (map plain lines)) refl (plain-map lines)

plain-append : (xs ys : List Slot) → list_all is_plain xs ≡ true → list_all is_plain ys ≡ true → list_all is_plain (xs ++ ys) ≡ true
plain-append [] ys h k = k
plain-append (x ∷ xs) ys h k =
    let both = and_parts (is_plain x) (list_all is_plain xs) h in
    and_from (is_plain x) (list_all is_plain (xs ++ ys)) both.0 (plain-append xs ys both.1 k)

plain-again : (n : ℕ) (lines : List Line) → list_all is_plain (rows_again n lines) ≡ true
plain-again zero lines = refl
plain-again (suc n) lines = plain-append (map plain lines) (rows_again n lines) (plain-map lines) (plain-again n lines)

plain-rows : (n : ℕ) (first later : List Line) → list_all is_plain (rows n first later) ≡ true
plain-rows n [] later = refl
plain-rows zero (line ∷ lines) later = refl
plain-rows (suc n) (line ∷ lines) later = plain-append (map plain (line ∷ lines)) (rows_again n later) (plain-map (line ∷ lines)) (plain-again n later)

length-again : (n : ℕ) (lines : List Line) → length lines ≡ 3 → length (rows_again n lines) ≡ 3 * n
length-again zero lines e = refl
length-again (suc n) lines e =
    let parts = length-append (map plain lines) (rows_again n lines) in
    let each = length-map lines plain in
    let rest = length-again n lines e in
    omega arith

-- rows of three fields
pub length-rows : (n : ℕ) (first later : List Line) → length first ≡ 3 → length later ≡ 3 → length (rows n first later) ≡ 3 * n
length-rows n [] later e f = absurd (omega arith)
length-rows zero (line ∷ lines) later e f = refl
length-rows (suc n) (line ∷ lines) later e f =
    let parts = length-append (map plain (line ∷ lines)) (rows_again n later) in
    let each = length-map (line ∷ lines) plain in
    let rest = length-again n later f in
    omega arith

length-flat_map : {X : Type 0} (f : X → List ℤ) → ((x : X) → length (f x) ≡ 3) → (xs : List X) → length (flat_map f xs) ≡ 3 * length xs
length-flat_map f three [] = refl
length-flat_map f three (x ∷ xs) =
    let parts = length-append (f x) (flat_map f xs) in
    let each = three x in
    let rest = length-flat_map f three xs in
    omega arith

-- what is left behind a table whose rows have three fields
pub record IsThree (slot : Slot) : Type 0 where
  pub first : length slot.first ≡ 3
  pub later : length slot.later ≡ 3
  pub ends : slot.ends ≡ 0

behind_table : {X : Type 0} (f : X → List ℤ) → ((x : X) → length (f x) ≡ 3) → (slot : Slot) → IsThree slot → (slots : List Slot) (earlier zs : List ℤ) (xs : List X)
    → AreNumbers (slot ∷ slots) earlier (pos (length xs) ∷ (flat_map f xs ++ zs)) → AreNumbers slots (onto (flat_map f xs) (pos (length xs) ∷ earlier)) zs
behind_table f three slot is slots earlier zs xs h =
    let n = length xs in
    behind_plains (rows n slot.first slot.later) slots (pos n ∷ earlier) (flat_map f xs) zs (plain-rows n slot.first slot.later)
    (length-flat_map f three xs ∙ sym (length-rows n slot.first slot.later is.first is.later)) (behind_all slot slots (pos n ∷ earlier) (flat_map f xs ++ zs) (pos n) is.ends h.1)

pub record Counts (n high : ℕ) (rest : List ℤ) : Type 0 where
  pub few : n ≤ high
  pub left : 3 * n ≤ length rest

counts : (high : ℕ) (slot : Slot) (slots : List Slot) (earlier rest : List ℤ) (n : ℕ) → slot.line.limit ≡ Between (pos 1) (pos high) → IsThree slot
    → AreNumbers (slot ∷ slots) earlier (pos n ∷ rest) → Counts n high rest
counts high slot slots earlier rest n e is h =
    let within = is_within (pos 1) (pos high) (pos n) (subst (λ (l : Limit). IsTrue (fits l earlier (pos n))) e h.0) in
    let three = length-rows n slot.first slot.later is.first is.later in
    let enough = as_many (rows n slot.first slot.later) slots (pos n ∷ earlier) rest (plain-rows n slot.first slot.later) (behind_all slot slots (pos n ∷ earlier) rest (pos n) is.ends h.1) in
    record { few = omega (arith, ints, within.1); left = omega (arith, three, enough) }

-- the field of each table's count
abbrev first_slot : List Slot → Slot
first_slot [] = one [] Count (pos 0) (pos 0)
first_slot (slot ∷ slots) = slot

pub business_counts : (zs rest : List ℤ) (n : ℕ) → IsNext business_slots zs → zs ≡ pos n ∷ rest → Counts n 16 rest
business_counts zs rest n next e =
    counts 16 (first_slot business_slots) next.later next.earlier rest n refl (record { first = refl; later = refl; ends = refl }) (subst (λ (l : List ℤ). AreNumbers (business_slots ++ next.later) next.earlier l) e next.numbers)

pub age_counts : (zs rest : List ℤ) (n : ℕ) → IsNext age_slots zs → zs ≡ pos n ∷ rest → Counts n 64 rest
age_counts zs rest n next e =
    counts 64 (first_slot age_slots) next.later next.earlier rest n refl (record { first = refl; later = refl; ends = refl }) (subst (λ (l : List ℤ). AreNumbers (age_slots ++ next.later) next.earlier l) e next.numbers)

pub bracket_counts : (first_rate : ℤ) (zs rest : List ℤ) (n : ℕ) → AreLast first_rate zs → zs ≡ pos n ∷ rest → Counts n 16 rest
bracket_counts first_rate zs rest n last e =
    counts 16 (first_slot bracket_slots) last.later last.earlier rest n refl (record { first = refl; later = refl; ends = refl }) (subst (λ (l : List ℤ). AreNumbers (bracket_slots ++ last.later) last.earlier l) e last.numbers)

-- a table is its count and its rows
pub table_numbers : {X : Type 0} (f : X → List ℤ) (zs rest ys : List ℤ) (n : ℕ) (xs : List X) → zs ≡ pos n ∷ rest → rest ≡ flat_map f (take n xs) ++ ys → n ≤ length xs
    → zs ≡ pos (length (take n xs)) ∷ (flat_map f (take n xs) ++ ys)
table_numbers f zs rest ys n xs e g few =
    let size = length-take-le n xs few in
    e ∙ ap (λ l. pos n ∷ l) g ∙ ap (λ k. pos k ∷ (flat_map f (take n xs) ++ ys)) (sym size)

pub business_table : (zs ys : List ℤ) (rows : List Bracket) → IsNext business_slots zs → zs ≡ bracket_numbers rows ++ ys → IsBusiness rows
business_table zs ys rows next e = business_rows next.later next.earlier ys rows (subst (λ (l : List ℤ). AreNumbers (business_slots ++ next.later) next.earlier l) e next.numbers)

pub age_table : (zs ys : List ℤ) (rows : List AgeRow) → IsNext age_slots zs → zs ≡ age_numbers rows ++ ys → IsAge rows
age_table zs ys rows next e = age_rows next.later next.earlier ys rows (subst (λ (l : List ℤ). AreNumbers (age_slots ++ next.later) next.earlier l) e next.numbers)

pub bracket_table : (first_rate : ℤ) (zs ys : List ℤ) (rows : List Bracket) → AreLast first_rate zs → zs ≡ bracket_numbers rows ++ ys → IsBrackets first_rate rows
bracket_table first_rate zs ys rows last e =
    subst (λ (r : ℤ). IsBrackets r rows) last.rate (brackets_rows last.later last.earlier ys rows (subst (λ (l : List ℤ). AreNumbers (bracket_slots ++ last.later) last.earlier l) e last.numbers))

-- what is left behind each part
pub next_of : (slots later : List Slot) (zs : List ℤ) → AreLeft (slots ++ later) zs → IsNext slots zs
next_of slots later zs left = record { earlier = left.earlier; later = later; numbers = left.numbers }

pub left_behind : (slots later : List Slot) (zs xs ys : List ℤ) → list_all is_plain slots ≡ true → length xs ≡ length slots → AreLeft (slots ++ later) zs → zs ≡ xs ++ ys → AreLeft later ys
left_behind slots later zs xs ys h e left f =
    record { earlier = onto xs left.earlier; numbers = behind_plains slots later left.earlier xs ys h e (subst (λ (l : List ℤ). AreNumbers (slots ++ later) left.earlier l) f left.numbers) }

pub left_behind_business : (later : List Slot) (zs ys : List ℤ) (rows : List Bracket) → AreLeft (business_slots ++ later) zs → zs ≡ bracket_numbers rows ++ ys → AreLeft later ys
left_behind_business later zs ys rows left e =
    record { earlier = _; numbers = behind_table bracket_row (λ row. refl) (first_slot business_slots) (record { first = refl; later = refl; ends = refl }) later left.earlier ys rows (subst (λ (l : List ℤ). AreNumbers (business_slots ++ later) left.earlier l) e left.numbers) }

pub left_behind_age : (later : List Slot) (zs ys : List ℤ) (rows : List AgeRow) → AreLeft (age_slots ++ later) zs → zs ≡ age_numbers rows ++ ys → AreLeft later ys
left_behind_age later zs ys rows left e =
    record { earlier = _; numbers = behind_table age_row (λ row. refl) (first_slot age_slots) (record { first = refl; later = refl; ends = refl }) later left.earlier ys rows (subst (λ (l : List ℤ). AreNumbers (age_slots ++ later) left.earlier l) e left.numbers) }

pub left_behind_bracket : (later : List Slot) (zs ys : List ℤ) (rows : List Bracket) → AreLeft (bracket_slots ++ later) zs → zs ≡ bracket_numbers rows ++ ys → AreLeft later ys
left_behind_bracket later zs ys rows left e =
    record { earlier = _; numbers = behind_table bracket_row (λ row. refl) (first_slot bracket_slots) (record { first = refl; later = refl; ends = refl }) later left.earlier ys rows (subst (λ (l : List ℤ). AreNumbers (bracket_slots ++ later) left.earlier l) e left.numbers) }
