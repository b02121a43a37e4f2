-- The bytes of a book's numbers are those that the table of kinds gives.
use Rattle.std.proofs.Common.{◌≡◌, ℕ, zero, suc, ℤ, pos, false, List, [], ◌∷◌, ◌++◌, codes, length, take, drop, replicate, refl, sym, ap, ◌∙◌, append_assoc, length-append, arith}
use Rattle.std.specs.Prelude.{flat_map, map}
use Rattle.aid_books.specs.declared.book.Book.{Book}
use Rattle.format_kinds.proofs.Chain.{length-size_numbers}
use Rattle.format_kinds.specs.Book.{age_numbers, age_row, asset_numbers, bracket_numbers, bracket_row, ceiling_numbers, employment_numbers, form_number, numbers_of, payroll_numbers, pell_numbers, percent_numbers, schedule_numbers, size_numbers}
use Rattle.format_kinds.specs.Sections.{ceiling_slots}
use Rattle.format_table.specs.Spelling.{numbers_bytes}
use Rattle.format_kinds.specs.Kinds.{age_columns, amount, book_slots, by_amount}
use Rattle.format_table.specs.Columns.{counted}
use Rattle.format_table.proofs.LayoutLemmas.{cut-zero}
use Rattle.format_table.specs.Layout.{rows}
use Rattle.format_table.specs.Parts.{Slot, width_of}
use Rattle.format_table.specs.declared.field.Limit.TheVariants.{AboveRow, Begins, Between}
use Rattle.format_bytes.proofs.Slots.{has_none}
use Rattle.run_claims.specs.Written.{Number, book_numbers, bytes_of, lowest, table}
use Rattle.run_claims.specs.Written.Number.{whole, ranged}
use Rattle.run_claims.proofs.KeptBytes.{AreOfRow, Shape, map-flat_map, plain_shape, row_shapes, shape, then_kept, value, whole_shapes, whole_values}

-- a table, before other numbers
table_kept : {Row : Type 0} (numbers : Row → List ℤ) (slot : Slot) (more : List Slot) (zs : List ℤ) (ms : List Number) → width_of slot.line.form ≡ 1 → has_none slot.first ≡ false → slot.ends ≡ 0
    → AreOfRow (λ row. map (whole 8) (numbers row)) slot.first → AreOfRow (λ row. map (whole 8) (numbers row)) slot.later → numbers_bytes more zs ≡ flat_map bytes_of ms
    → (xs : List Row) → numbers_bytes (slot ∷ more) (pos (length xs) ∷ flat_map numbers xs ++ zs) ≡ flat_map bytes_of (table numbers xs ++ ms)
table_kept numbers slot more zs ms one some none front back kept xs =
    let slots = rows (length xs) slot.first slot.later in
    let ns : List Number = map (whole 8) (flat_map numbers xs) in
    let shapes : map shape slots ≡ map plain_shape ns =
    row_shapes (λ row. map (whole 8) (numbers row)) slot.first slot.later some front back xs ∙ ap (map plain_shape) (sym (map-flat_map (whole 8) numbers xs)) in
    let values : numbers_bytes (slots ++ more) (flat_map numbers xs ++ zs) ≡ numbers_bytes (slots ++ more) (map value ns ++ zs) =
    ap (λ (l : List ℤ). numbers_bytes (slots ++ more) (l ++ zs)) (sym (whole_values 8 (flat_map numbers xs))) in
    let all = ap (λ (s : List Slot). numbers_bytes (slots ++ s) (flat_map numbers xs ++ zs)) (cut-zero slot.ends (pos (length xs)) more none) in
    λ i. lowest (one i) (pos (length xs)) ++ (all ∙ values ∙ then_kept slots more ns ms zs shapes kept) i

-- the fields of the three tables
abbrev business_slot : Slot
business_slot = by_amount (codes "business") (Between (pos 0) (pos 0)) (Between (pos 0) (pos 0))

abbrev age_slot : Slot
age_slot = counted (codes "age") (pos 1) (pos 64) (age_columns (Between (pos 0) (pos 0))) (age_columns (AboveRow (pos 120)))

abbrev bracket_slot : Slot
bracket_slot = by_amount (codes "bracket") amount (Begins (pos 99999999))

-- the protection of students by their standing
abbrev standing_numbers : Book → List ℤ
standing_numbers b = b.protection.dependent_student ∷ b.protection.single_student ∷ b.protection.married_student ∷ []

-- the numbers before the tables, behind the form and the year
abbrev pub before_tables : Book → List ℤ
before_tables b =
    pell_numbers b.pell ++ percent_numbers b.percent ++ size_numbers b.poverty.contiguous ++ size_numbers b.poverty.alaska ++ size_numbers b.poverty.hawaii
    ++ (payroll_numbers b.payroll ++ size_numbers b.protection.parents) ++ (standing_numbers b ++ size_numbers b.protection.single_parent) ++ size_numbers b.protection.married_parent
    ++ (employment_numbers b.employment ++ asset_numbers b.assets)

length-before_tables : (b : Book) → length (before_tables b) ≡ 69
length-before_tables b =
    let a = pell_numbers b.pell ++ percent_numbers b.percent ++ size_numbers b.poverty.contiguous in
    let c = a ++ size_numbers b.poverty.alaska in
    let d = c ++ size_numbers b.poverty.hawaii in
    let e = d ++ (payroll_numbers b.payroll ++ size_numbers b.protection.parents) in
    let f = e ++ (standing_numbers b ++ size_numbers b.protection.single_parent) in
    let g = f ++ size_numbers b.protection.married_parent in
    omega (
      arith,
      length-size_numbers b.poverty.contiguous,
      length-append a (size_numbers b.poverty.alaska),
      length-size_numbers b.poverty.alaska,
      length-append c (size_numbers b.poverty.hawaii),
      length-size_numbers b.poverty.hawaii,
      length-append d (payroll_numbers b.payroll ++ size_numbers b.protection.parents),
      length-size_numbers b.protection.parents,
      length-append e (standing_numbers b ++ size_numbers b.protection.single_parent),
      length-size_numbers b.protection.single_parent,
      length-append f (size_numbers b.protection.married_parent),
      length-size_numbers b.protection.married_parent,
      length-append g (employment_numbers b.employment ++ asset_numbers b.assets),
    )

-- both sides have the same parts in the same order
regroup : (c a h q p r s m e t : List ℤ) → (c ++ (a ++ h)) ++ (q ++ ((p ++ (r ++ (s ++ m))) ++ (e ++ t))) ≡ c ++ a ++ h ++ (q ++ p) ++ (r ++ s) ++ m ++ e ++ t
regroup c a h q p r s m e t = simp append_assoc

beside : (a b c d e f : List Number) → a ++ (b ++ (c ++ (d ++ (e ++ f)))) ≡ a ++ b ++ c ++ d ++ e ++ f
beside a b c d e f = simp append_assoc

-- each number between the form and the tables takes eight bytes
front_shapes : (b : Book) → map shape (take 70 (drop 1 book_slots)) ≡ map plain_shape (ranged 8 2000 2099 b.year ∷ map (whole 8) (before_tables b))
front_shapes b =
    let many : replicate 69 (8, [], 0) ≡ map plain_shape (map (whole 8) (before_tables b)) = sym (whole_shapes 8 (before_tables b) ∙ ap (λ n. replicate n (8, [], 0)) (length-before_tables b)) in
    ap (λ (l : List Shape). (8, [], 0) ∷ l) many

-- the fields from the tables on, before those at the end
abbrev table_slots : List Slot → List Slot
table_slots tail = take 8 (drop 71 book_slots) ++ tail

tables_kept : (b : Book) (tail : List Slot) (end : List ℤ) → numbers_bytes tail end ≡ flat_map bytes_of (map (whole 8) end)
    → numbers_bytes (table_slots tail) (bracket_numbers b.business ++ (age_numbers b.age ++ (schedule_numbers b.schedule ++ (bracket_numbers b.bracket ++ end))))
    ≡ flat_map bytes_of (table bracket_row b.business ++ (table age_row b.age ++ (map (whole 8) (schedule_numbers b.schedule) ++ (table bracket_row b.bracket ++ map (whole 8) end))))
tables_kept b tail end kept =
    let ending = map (whole 8) end in
    let last = table_kept bracket_row bracket_slot tail end ending refl refl refl (λ row. refl) (λ row. refl) kept b.bracket in
    let schedule = then_kept (take 5 (drop 73 book_slots)) (bracket_slot ∷ tail) (map (whole 8) (schedule_numbers b.schedule)) (table bracket_row b.bracket ++ ending) (bracket_numbers b.bracket ++ end) refl last in
    let age = table_kept age_row age_slot (take 6 (drop 73 book_slots) ++ tail) (schedule_numbers b.schedule ++ (bracket_numbers b.bracket ++ end))
    (map (whole 8) (schedule_numbers b.schedule) ++ (table bracket_row b.bracket ++ ending)) refl refl refl (λ row. refl) (λ row. refl) schedule b.age in
    table_kept bracket_row business_slot (take 7 (drop 72 book_slots) ++ tail) (age_numbers b.age ++ (schedule_numbers b.schedule ++ (bracket_numbers b.bracket ++ end)))
    (table age_row b.age ++ (map (whole 8) (schedule_numbers b.schedule) ++ (table bracket_row b.bracket ++ ending))) refl refl refl (λ row. refl) (λ row. refl) age b.business

-- what stands behind the form, by the numbers at the end
behind_kept : (b : Book) (tail : List Slot) (end : List ℤ) → numbers_bytes tail end ≡ flat_map bytes_of (map (whole 8) end)
    → numbers_bytes (take 70 (drop 1 book_slots) ++ table_slots tail) (pos b.year ∷ (before_tables b ++ (bracket_numbers b.business ++ (age_numbers b.age ++ (schedule_numbers b.schedule ++ (bracket_numbers b.bracket ++ end))))))
    ≡ flat_map bytes_of ((ranged 8 2000 2099 b.year ∷ map (whole 8) (before_tables b)) ++ (table bracket_row b.business ++ (table age_row b.age ++ (map (whole 8) (schedule_numbers b.schedule) ++ (table bracket_row b.bracket ++ map (whole 8) end)))))
behind_kept b tail end kept =
    let front = take 70 (drop 1 book_slots) in
    let tables = bracket_numbers b.business ++ (age_numbers b.age ++ (schedule_numbers b.schedule ++ (bracket_numbers b.bracket ++ end))) in
    let ns = ranged 8 2000 2099 b.year ∷ map (whole 8) (before_tables b) in
    let ms = table bracket_row b.business ++ (table age_row b.age ++ (map (whole 8) (schedule_numbers b.schedule) ++ (table bracket_row b.bracket ++ map (whole 8) end))) in
    let values = ap (λ (l : List ℤ). numbers_bytes (front ++ table_slots tail) (pos b.year ∷ (l ++ tables))) (sym (whole_values 8 (before_tables b))) in
    values ∙ then_kept front (table_slots tail) ns ms tables (front_shapes b) (tables_kept b tail end kept)

-- the form first
form_kept : (ceiling : ℕ) (b : Book) → numbers_bytes book_slots (form_number ceiling ∷ pos b.year ∷ (before_tables b ++ (bracket_numbers b.business ++ (age_numbers b.age ++ (schedule_numbers b.schedule ++ (bracket_numbers b.bracket ++ ceiling_numbers ceiling))))))
    ≡ flat_map bytes_of ((whole 8 (form_number ceiling) ∷ ranged 8 2000 2099 b.year ∷ map (whole 8) (before_tables b)) ++ (table bracket_row b.business ++ (table age_row b.age ++ (map (whole 8) (schedule_numbers b.schedule) ++ (table bracket_row b.bracket ++ map (whole 8) (ceiling_numbers ceiling))))))
form_kept zero b = ap (λ (bs : List ℕ). lowest 8 (pos 1) ++ bs) (behind_kept b [] [] refl)
form_kept (suc n) b = ap (λ (bs : List ℕ). lowest 8 (pos 2) ++ bs) (behind_kept b ceiling_slots (pos (suc n) ∷ []) refl)

pub book_kept : (b : Book) → numbers_bytes book_slots (numbers_of b) ≡ flat_map bytes_of (book_numbers b)
unfolding numbers_of
book_kept b =
    let form = form_number b.ceiling in
    let tables = bracket_numbers b.business ++ (age_numbers b.age ++ (schedule_numbers b.schedule ++ (bracket_numbers b.bracket ++ ceiling_numbers b.ceiling))) in
    let grouped = ap (λ (l : List ℤ). form ∷ pos b.year ∷ (pell_numbers b.pell ++ (percent_numbers b.percent ++ l)))
    (regroup (size_numbers b.poverty.contiguous) (size_numbers b.poverty.alaska) (size_numbers b.poverty.hawaii) (payroll_numbers b.payroll) (size_numbers b.protection.parents) (standing_numbers b)
    (size_numbers b.protection.single_parent) (size_numbers b.protection.married_parent) (employment_numbers b.employment ++ asset_numbers b.assets) tables) in
    let ns = whole 8 form ∷ ranged 8 2000 2099 b.year ∷ map (whole 8) (before_tables b) in
    ap (numbers_bytes book_slots) grouped ∙ form_kept b.ceiling b
    ∙ ap (flat_map bytes_of) (beside ns (table bracket_row b.business) (table age_row b.age) (map (whole 8) (schedule_numbers b.schedule)) (table bracket_row b.bracket) (map (whole 8) (ceiling_numbers b.ceiling)))
