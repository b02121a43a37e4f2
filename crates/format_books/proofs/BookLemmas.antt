-- The numbers of a text whose fields have no error, and of whose rows none fails, are numbers of a book.
use Rattle.std.proofs.Common.{◌≡◌, ℕ, zero, suc, ◌-◌, ◌≤◌, ℤ, pos, neg_ℤ, Bool, true, false, ◌≢◌, List, [], ◌∷◌, ◌++◌, codes, drop, length, map, replicate, take, Some, None, refl, sym, ap, ◌∙◌, subst, arith}
use Rattle.std.specs.Prelude.{flat_map, slice_get, slice_index_or}
use Rattle.std.specs.List.{list_all}
use Rattle.std.specs.Ordering.{int_eq}
use Rattle.std.proofs.lemmas.Bool.{and_from, true≢false}
use Rattle.std.proofs.lemmas.Bool.Decides.{Decides-int_eq}
use Rattle.std.proofs.lemmas.Int.{ints}
use Rattle.std.proofs.lemmas.List.{length-map, length-replicate}
use Rattle.toml.specs.Data.{Data, Members}
use Rattle.format_kinds.proofs.Amounts.{is_amount_slot}
use Rattle.format_kinds.proofs.Behind.{onto}
use Rattle.format_kinds.proofs.Chain.{after_age, after_assets, after_business, after_employment, after_payroll, after_pell, after_percent, after_poverty, after_protection, after_year, form_put}
use Rattle.format_kinds.proofs.Plain.{is_within}
use Rattle.format_kinds.proofs.InRange.{age_put, amounts_put, bracket_put, business_put}
use Rattle.format_kinds.specs.Book.{AreBookNumbers, age_numbers, age_row, bracket_numbers, bracket_row}
use Rattle.format_table.proofs.Laws.{AreNumbers-few}
use Rattle.format_table.specs.Forms.{most_numbers}
use Rattle.format_kinds.specs.Sections.{age_slots, bracket_slots, business_slots, ceiling_slots, last_slots, pell_slots, schedule_slots, year_slots}
use Rattle.format_kinds.specs.Kinds.{book_slots}
use Rattle.format_table.specs.Columns.{one}
use Rattle.format_table.specs.Layout.{AreNumbers}
use Rattle.format_table.specs.Limits.{is_between}
use Rattle.format_table.specs.Parts.{Slot}
use Rattle.format_table.specs.declared.field.Form.TheVariants.{I64}
use Rattle.format_books.specs.Fields.{BookLine, book_line, field_line, first_fields, table_fields}
use Rattle.format_books.specs.Ranges.{Range, between, range_named, up_to}
use Rattle.format_books.specs.Numbers.{added_by, added_by_all, fields_in, numbers_in, row_numbers}
use Rattle.format_books.specs.Reading.{fields_error, fields_in_form, fields_of, first_error, integer_in, is_form_2, limit, member_at, places_of, rows_of}
use Rattle.format_books.specs.Tables.{age_row_of, age_rows, book_break, bracket_of, bracket_rows, business_rows}
use Rattle.format_books.specs.declared.table.BookField.{BookField}
use Rattle.format_books.specs.declared.table.Holds.{Holds}
use Rattle.format_books.specs.declared.table.Holds.TheVariants.{Integer, Integers, Tables, Column}
use Rattle.format_books.proofs.BuildLemmas.{range-age, range-bracket, range-business, size-age, size-bracket, size-business, tables}
use Rattle.format_books.proofs.NumbersLemmas.{IsAmounts, IsSound, ceiling_sound, field_sound, many_amounts, one_range}

-- the range of an amount
abbrev amount : Range
amount = between (pos 0) (up_to (pos 99999999))

-- the field of a number, and what it adds
abbrev field_at : ℕ → BookLine
field_at field = slice_index_or table_fields (field - 1) (book_line 0 [] [] Column)

abbrev added_at : ℕ → Members → List ℤ
added_at field t = added_by (field_at field).kind (field_at field).section (field_at field).key t

-- numbers for these fields, whatever stands before them
record Always (slots : List Slot) (zs : List ℤ) : Type 0 where
  pub numbers : (earlier : List ℤ) → AreNumbers slots earlier zs

-- one number, within a range
record IsOne (low high : ℤ) (zs : List ℤ) : Type 0 where
  pub value : ℤ
  pub is : zs ≡ value ∷ []
  pub in_range : is_between low high value ≡ true

one_of : (kind : Holds) (section key : List ℕ) (range : Range) (low high : ℤ) (t : Members) → kind ≡ Integer → range ≡ between low (up_to high)
    → IsSound kind range.low (limit range.high section t) (places_of kind section key t) → IsOne low high (added_by kind section key t)
one_of Integer section key range low high t k r h =
    let sound : IsSound Integer low high (member_at section key t ∷ []) = subst (λ (x : Range). IsSound Integer x.low (limit x.high section t) (member_at section key t ∷ [])) r h in
    record { value = integer_in (member_at section key t); is = refl; in_range = one_range Integer low high (member_at section key t) sound.ranges }
one_of (Integers n) section key range low high t k r h = cc
one_of Tables section key range low high t k r h = cc
one_of Column section key range low high t k r h = cc

one_put : (field : ℕ) (name : List ℕ) (low high : ℤ) (t : Members) (later : List Slot) (zs : List ℤ) → fields_error t ≡ None → slice_get first_fields (field - 1) ≡ Some (field_at field)
    → (field_at field).kind ≡ Integer → range_named (field_at field).name ≡ between low (up_to high) → Always later zs → Always (one name I64 low high ∷ later) (added_at field t ++ zs)
one_put field name low high t later zs none at kind range rest =
    let f = field_at field in
    let here = one_of f.kind f.section f.key (range_named f.name) low high t kind range (field_sound t none (field - 1) f at) in
    record { numbers = λ earlier. subst (λ (xs : List ℤ). AreNumbers (one name I64 low high ∷ later) earlier (xs ++ zs)) (sym here.is) (here.in_range, rest.numbers (here.value ∷ earlier)) }

-- a field of an amount
abbrev dollars : List ℕ → Slot
dollars name = one name I64 (pos 0) (pos 99999999)

amount_slots : (n : ℕ) (name : List ℕ) → list_all is_amount_slot (replicate n (dollars name)) ≡ true
amount_slots zero name = refl
amount_slots (suc n) name = and_from (is_amount_slot (dollars name)) (list_all is_amount_slot (replicate n (dollars name))) refl (amount_slots n name)

many_of : (kind : Holds) (section key : List ℕ) (range : Range) (n : ℕ) (t : Members) → kind ≡ Integers n → range ≡ amount
    → IsSound kind range.low (limit range.high section t) (places_of kind section key t) → IsAmounts n (added_by kind section key t)
many_of Integer section key range n t k r h = cc
many_of (Integers m) section key range n t k r h =
    let sound : IsSound (Integers m) (pos 0) (pos 99999999) (member_at section key t ∷ []) = subst (λ (x : Range). IsSound (Integers m) x.low (limit x.high section t) (member_at section key t ∷ [])) r h in
    let same : m ≡ n = cc in
    subst (λ (x : ℕ). IsAmounts x (added_by (Integers m) section key t)) same (many_amounts m (member_at section key t) sound)
many_of Tables section key range n t k r h = cc
many_of Column section key range n t k r h = cc

many_put : (field n : ℕ) (name : List ℕ) (t : Members) (later : List Slot) (zs : List ℤ) → fields_error t ≡ None → slice_get first_fields (field - 1) ≡ Some (field_at field)
    → (field_at field).kind ≡ Integers n → range_named (field_at field).name ≡ amount → Always later zs → Always (replicate n (dollars name) ++ later) (added_at field t ++ zs)
many_put field n name t later zs none at kind range rest =
    let f = field_at field in
    let here = many_of f.kind f.section f.key (range_named f.name) n t kind range (field_sound t none (field - 1) f at) in
    record {
      numbers = λ earlier. amounts_put (replicate n (dollars name)) later earlier (added_at field t) zs (amount_slots n name) (here.count ∙ sym (length-replicate n (dollars name)))
          here.amounts (rest.numbers (onto (added_at field t) earlier));
    }

-- the least award is at most the greatest
pell_put : (t : Members) (later : List Slot) (zs : List ℤ) → fields_error t ≡ None → Always later zs → Always (pell_slots ++ later) (added_at 3 t ++ (added_at 4 t ++ zs))
unfolding range_named
pell_put t later zs none rest =
    let maximum = member_at (codes "pell") (codes "maximum") t in
    let minimum = member_at (codes "pell") (codes "minimum") t in
    let high = one_range Integer (pos 1) (pos 99999) maximum (field_sound t none 2 _ refl).ranges in
    let low = one_range Integer (pos 1) (integer_in maximum) minimum (field_sound t none 3 _ refl).ranges in
    record { numbers = λ earlier. (high, (low, rest.numbers (integer_in minimum ∷ integer_in maximum ∷ earlier))) }

-- a table adds the numbers of its rows
rows_added : {Row : Type 0} (columns : List BookLine) (make : Data → Row) (numbers : Row → List ℤ) → ((d : Data) → row_numbers columns d ≡ numbers (make d)) → (rows : List Data)
    → flat_map (row_numbers columns) rows ≡ flat_map numbers (map make rows)
rows_added columns make numbers same [] = refl
rows_added columns make numbers same (d ∷ rows) = let first = same d in let rest = rows_added columns make numbers same rows in λ i. first i ++ rest i

table_added : {Row : Type 0} (columns : List BookLine) (make : Data → Row) (numbers : Row → List ℤ) → ((d : Data) → row_numbers columns d ≡ numbers (make d)) → (rows : List Data)
    → pos (length rows) ∷ flat_map (row_numbers columns) rows ≡ pos (length (map make rows)) ∷ flat_map numbers (map make rows)
table_added columns make numbers same rows =
    let count = sym (length-map rows make) in
    let all = rows_added columns make numbers same rows in
    λ i. pos (count i) ∷ all i

business_added : (t : Members) → added_at 39 t ≡ bracket_numbers (business_rows t)
business_added t = table_added (fields_in (codes "business") table_fields) bracket_of bracket_row (λ d. refl) (rows_of (codes "business") t)

age_added : (t : Members) → added_at 43 t ≡ age_numbers (age_rows t)
age_added t = table_added (fields_in (codes "age") table_fields) age_row_of age_row (λ d. refl) (rows_of (codes "age") t)

bracket_added : (t : Members) → added_at 52 t ≡ bracket_numbers (bracket_rows t)
bracket_added t = table_added (fields_in (codes "bracket") table_fields) bracket_of bracket_row (λ d. refl) (rows_of (codes "bracket") t)

business_always : (t : Members) (later : List Slot) (zs : List ℤ) → fields_error t ≡ None → book_break t ≡ None → Always later zs
    → Always (business_slots ++ later) (added_at 39 t ++ zs)
business_always t later zs none rising rest =
    let all = tables t none rising in
    let rows = business_rows t in
    record {
      numbers = λ earlier. subst (λ (xs : List ℤ). AreNumbers (business_slots ++ later) earlier (xs ++ zs)) (sym (business_added t))
          (business_put rows later earlier zs (size-business t none).few (range-business t none) all.business_marginal all.business_over all.business_base
          (rest.numbers (onto (bracket_numbers rows) earlier)));
    }

age_always : (t : Members) (later : List Slot) (zs : List ℤ) → fields_error t ≡ None → book_break t ≡ None → Always later zs
    → Always (age_slots ++ later) (added_at 43 t ++ zs)
age_always t later zs none rising rest =
    let all = tables t none rising in
    let rows = age_rows t in
    record {
      numbers = λ earlier. subst (λ (xs : List ℤ). AreNumbers (age_slots ++ later) earlier (xs ++ zs)) (sym (age_added t))
          (age_put rows later earlier zs (size-age t none).few (range-age t none) all.age_rising all.age_start (rest.numbers (onto (age_numbers rows) earlier)));
    }

-- the schedule and its brackets, which begin with what its first rate gives
schedule_floor : (key : List ℕ) (t : Members) → IsSound Integer (neg_ℤ (pos 999999)) (pos 0) (member_at (codes "schedule") key t ∷ []) → is_between (neg_ℤ (pos 999999)) (pos 0) (integer_in (member_at (codes "schedule") key t)) ≡ true
schedule_floor key t h = one_range Integer (neg_ℤ (pos 999999)) (pos 0) (member_at (codes "schedule") key t) h.ranges

schedule_rate : (key : List ℕ) (t : Members) → IsSound Integer (pos 0) (pos 10000) (member_at (codes "schedule") key t ∷ []) → is_between (pos 0) (pos 10000) (integer_in (member_at (codes "schedule") key t)) ≡ true
schedule_rate key t h = one_range Integer (pos 0) (pos 10000) (member_at (codes "schedule") key t) h.ranges

schedule_always : (t : Members) (tail : List Slot) (end : List ℤ) → fields_error t ≡ None → book_break t ≡ None → Always tail end
    → Always (schedule_slots ++ (bracket_slots ++ tail)) (added_at 47 t ++ (added_at 48 t ++ (added_at 49 t ++ (added_at 50 t ++ (added_at 51 t ++ (added_at 52 t ++ end))))))
unfolding range_named
schedule_always t tail end none rising rest =
    let all = tables t none rising in
    let rows = bracket_rows t in
    let of : List ℕ → ℤ = λ key. integer_in (member_at (codes "schedule") key t) in
    record {
      numbers = λ earlier. (
        schedule_floor (codes "low_at") t (field_sound t none 46 _ refl),
        (
          schedule_floor (codes "low") t (field_sound t none 47 _ refl),
          (
            schedule_rate (codes "first_rate") t (field_sound t none 48 _ refl),
            (
              schedule_rate (codes "student_rate") t (field_sound t none 49 _ refl),
              (
                schedule_floor (codes "lowest_student") t (field_sound t none 50 _ refl),
                (
                    let before = of (codes "lowest_student") ∷ of (codes "student_rate") ∷ of (codes "first_rate") ∷ of (codes "low") ∷ of (codes "low_at") ∷ earlier in
                    subst (λ (xs : List ℤ). AreNumbers (bracket_slots ++ tail) before (xs ++ end)) (sym (bracket_added t))
                    (bracket_put rows tail before end (size-bracket t none).few (range-bracket t none) all.bracket_marginal all.bracket_base (rest.numbers (onto (bracket_numbers rows) before)))
                    ),
              ),
            ),
          ),
        ),
      );
    }

-- what some fields add before an end
abbrev added_before : List BookLine → Members → List ℤ → List ℤ
added_before [] t end = end
added_before (f ∷ fs) t end = added_by f.kind f.section f.key t ++ added_before fs t end

abbrev behind_form : Members → List ℤ → List ℤ
behind_form t end = added_before (take 51 (drop 1 table_fields)) t end

-- all fields behind the form, before some at the end
behind_always : (t : Members) (tail : List Slot) (end : List ℤ) → fields_error t ≡ None → book_break t ≡ None → Always tail end → Always (year_slots ++ after_year tail) (behind_form t end)
unfolding range_named after_year after_pell after_percent after_poverty after_payroll after_protection after_employment after_assets after_business after_age
behind_always t tail end none rising rest =
    one_put 2 _ _ _ t _ _ none refl refl refl (
    pell_put t _ _ none (
    one_put 5 _ _ _ t _ _ none refl refl refl (
    one_put 6 _ _ _ t _ _ none refl refl refl (
    one_put 7 _ _ _ t _ _ none refl refl refl (
    one_put 8 _ _ _ t _ _ none refl refl refl (
    one_put 9 _ _ _ t _ _ none refl refl refl (
    one_put 10 _ _ _ t _ _ none refl refl refl (
    one_put 11 _ _ _ t _ _ none refl refl refl (
    many_put 12 8 _ t _ _ none refl refl refl (
    one_put 13 _ _ _ t _ _ none refl refl refl (
    many_put 14 8 _ t _ _ none refl refl refl (
    one_put 15 _ _ _ t _ _ none refl refl refl (
    many_put 16 8 _ t _ _ none refl refl refl (
    one_put 17 _ _ _ t _ _ none refl refl refl (
    one_put 18 _ _ _ t _ _ none refl refl refl (
    one_put 19 _ _ _ t _ _ none refl refl refl (
    one_put 20 _ _ _ t _ _ none refl refl refl (
    one_put 21 _ _ _ t _ _ none refl refl refl (
    one_put 22 _ _ _ t _ _ none refl refl refl (
    one_put 23 _ _ _ t _ _ none refl refl refl (
    many_put 24 5 _ t _ _ none refl refl refl (
    one_put 25 _ _ _ t _ _ none refl refl refl (
    one_put 26 _ _ _ t _ _ none refl refl refl (
    one_put 27 _ _ _ t _ _ none refl refl refl (
    one_put 28 _ _ _ t _ _ none refl refl refl (
    many_put 29 5 _ t _ _ none refl refl refl (
    one_put 30 _ _ _ t _ _ none refl refl refl (
    many_put 31 5 _ t _ _ none refl refl refl (
    one_put 32 _ _ _ t _ _ none refl refl refl (
    one_put 33 _ _ _ t _ _ none refl refl refl (
    one_put 34 _ _ _ t _ _ none refl refl refl (
    one_put 35 _ _ _ t _ _ none refl refl refl (
    one_put 36 _ _ _ t _ _ none refl refl refl (
    one_put 37 _ _ _ t _ _ none refl refl refl (
    one_put 38 _ _ _ t _ _ none refl refl refl (
    business_always t _ _ none rising (
    age_always t _ _ none rising (
    schedule_always t tail end none rising rest))))))))))))))))))))))))))))))))))))))

-- whole book, in either form
abbrev form_in : Members → ℤ
form_in t = integer_in (member_at [] (codes "form") t)

abbrev ceiling_in : Members → ℤ
ceiling_in t = integer_in (member_at (codes "ceiling") (codes "percent") t)

form_within : (t : Members) → fields_error t ≡ None → is_between (pos 1) (pos 2) (form_in t) ≡ true
unfolding range_named
form_within t none = one_range Integer (pos 1) (pos 2) (member_at [] (codes "form") t) (field_sound t none 0 _ refl).ranges

one_of_two : (form : ℤ) → is_between (pos 1) (pos 2) form ≡ true → int_eq form (pos 2) ≡ false → form ≡ pos 1
one_of_two form h other =
    let range = is_within (pos 1) (pos 2) form h in
    let differ : form ≢ pos 2 = λ e. true≢false (sym ((Decides-int_eq form (pos 2)).1 e) ∙ other) in
    omega (arith, ints, range.0, range.1, differ)

by_form : (b : Bool) (t : Members) → is_form_2 t ≡ b → first_error (fields_in_form b) t ≡ None → fields_error t ≡ None → book_break t ≡ None → AreNumbers book_slots [] (added_by_all (fields_in_form b) t)
unfolding fields_in_form
by_form true t is whole none rising =
    let two : form_in t ≡ pos 2 = (Decides-int_eq (form_in t) (pos 2)).0 is in
    let last : Always ceiling_slots (ceiling_in t ∷ []) = record { numbers = λ earlier. (one_range Integer (pos 1) (pos 9999) (member_at (codes "ceiling") (codes "percent") t) (ceiling_sound t whole).ranges, tt) } in
    let end : Always (last_slots (form_in t)) (ceiling_in t ∷ []) = subst (λ (z : ℤ). Always (last_slots z) (ceiling_in t ∷ [])) (sym two) last in
    form_put (form_in t) [] (behind_form t (ceiling_in t ∷ [])) (form_within t none) ((behind_always t (last_slots (form_in t)) (ceiling_in t ∷ []) none rising end).numbers (form_in t ∷ []))
by_form false t is whole none rising =
    let one : form_in t ≡ pos 1 = one_of_two (form_in t) (form_within t none) is in
    let last : Always [] [] = record { numbers = λ earlier. tt } in
    let end : Always (last_slots (form_in t)) [] = subst (λ (z : ℤ). Always (last_slots z) []) (sym one) last in
    form_put (form_in t) [] (behind_form t []) (form_within t none) ((behind_always t (last_slots (form_in t)) [] none rising end).numbers (form_in t ∷ []))

pub numbers_of_book : (t : Members) → fields_error t ≡ None → book_break t ≡ None → AreBookNumbers (numbers_in t)
unfolding numbers_in fields_error
numbers_of_book t none rising = ([], by_form (is_form_2 t) t refl none none rising)

pub few_numbers : (t : Members) → fields_error t ≡ None → book_break t ≡ None → length (numbers_in t) ≤ most_numbers
few_numbers t none rising =
    let are = numbers_of_book t none rising in
    let few : length (numbers_in t) ≤ 368 = AreNumbers-few book_slots are.0 (numbers_in t) refl are.1 in
    omega (arith, few)

-- the fields of the program add the numbers of the table
pub numbers_by : (fields : List BookField) (t : Members) → map field_line fields ≡ fields_of t → numbers_in t ≡ added_by_all (map field_line fields) t
unfolding numbers_in
numbers_by fields t e = ap (λ fs. added_by_all fs t) (sym e)
