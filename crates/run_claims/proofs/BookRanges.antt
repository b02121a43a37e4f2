-- The ranges and lists of a book that its type doesn't say are those that the limits of its fields give.
use Rattle.std.proofs.Common.{ℤ, pos, List, ◌∷◌, ◌++◌, length, refl}
use Rattle.std.specs.Prelude.{flat_map, map}
use Rattle.aid_books.specs.declared.book.Book.{Book}
use Rattle.aid_filings.specs.declared.filing.What.TheVariants.{Book as BookFiled}
use Rattle.format_kinds.proofs.Behind.{age_counts, age_table, bracket_counts, bracket_table, business_counts, business_table}
use Rattle.format_kinds.proofs.Chain.{left_age, left_assets, left_business, left_employment, left_form, left_payroll, left_pell, left_percent, left_poverty, left_protection, left_year, next_age, next_bracket, next_business}
use Rattle.format_kinds.proofs.InRange.{book_in_range}
use Rattle.format_kinds.specs.Book.{age_numbers, age_row, asset_numbers, bracket_numbers, bracket_row, ceiling_numbers, employment_numbers, form_number, numbers_of, payroll_numbers, pell_numbers, percent_numbers, poverty_numbers, protection_numbers, schedule_numbers}
use Rattle.format_kinds.specs.Sections.{last_slots}
use Rattle.format_kinds.specs.Kinds.{book_slots}
use Rattle.format_table.specs.Layout.{AreNumbers}
use Rattle.format_bytes.specs.Parts.{FitAnywhere}
use Rattle.run_claims.specs.Written.{Number, book_numbers, table, HasLists}
use Rattle.run_claims.specs.Written.Number.{whole, ranged}
use Rattle.run_claims.proofs.KeptBooks.{before_tables}
use Rattle.run_claims.proofs.Ranges.{AreInRange, append_in_range, natural, whole_in_range}

table_in_range : {Row : Type 0} (numbers : Row → List ℤ) (rows : List Row) (rest : List Number) → AreInRange rest → AreInRange (rest ++ table numbers rows)
table_in_range numbers rows rest are = append_in_range rest (table numbers rows) are (tt, whole_in_range 8 (flat_map numbers rows))

pub book_held : (b : Book) (earlier : List ℤ) → AreNumbers book_slots earlier (numbers_of b) → AreInRange (book_numbers b) × HasLists (BookFiled b)
unfolding numbers_of
book_held b earlier fit =
    let form = form_number b.ceiling in
    let tail = last_slots form in
    let z11 = ceiling_numbers b.ceiling in
    let z10 = bracket_numbers b.bracket ++ z11 in
    let z9 = schedule_numbers b.schedule ++ z10 in
    let z8 = age_numbers b.age ++ z9 in
    let z7 = bracket_numbers b.business ++ z8 in
    let z6 = asset_numbers b.assets ++ z7 in
    let z5 = employment_numbers b.employment ++ z6 in
    let z4 = protection_numbers b.protection ++ z5 in
    let z3 = payroll_numbers b.payroll ++ z4 in
    let z2 = poverty_numbers b.poverty ++ z3 in
    let z1 = percent_numbers b.percent ++ z2 in
    let z0 = pell_numbers b.pell ++ z1 in
    let l = left_form (numbers_of b) (pos b.year ∷ z0) form (earlier, fit) refl in
    let l0 = left_year tail (pos b.year ∷ z0) z0 b.year l refl in
    let l3 = left_poverty tail z2 z3 b.poverty (left_percent tail z1 z2 b.percent (left_pell tail z0 z1 b.pell l0 refl) refl) refl in
    let l6 = left_employment tail z5 z6 b.employment (left_protection tail z4 z5 b.protection (left_payroll tail z3 z4 b.payroll l3 refl) refl) refl in
    let l7 = left_assets tail z6 z7 b.assets l6 refl in
    let l8 = left_business tail z7 z8 b.business l7 refl in
    let last = next_bracket tail z9 z10 b.schedule (left_age tail z8 z9 b.age l8 refl) refl in
    let business = business_table z7 z8 b.business (next_business tail z7 l7) refl in
    let age = age_table z8 z9 b.age (next_age tail z8 l8) refl in
    let bracket = bracket_table b.schedule.first_rate z10 z11 b.bracket last refl in
    let front = whole 8 form ∷ ranged 8 2000 2099 b.year ∷ map (whole 8) (before_tables b) in
    let f1 = front ++ table bracket_row b.business in
    let f2 = f1 ++ table age_row b.age in
    let schedule = map (whole 8) (schedule_numbers b.schedule) in
    let r1 = table_in_range bracket_row b.business front (tt, (natural 2000 2099 b.year l.numbers.0, whole_in_range 8 (before_tables b))) in
    let r2 = append_in_range f2 schedule (table_in_range age_row b.age f1 r1) (whole_in_range 8 (schedule_numbers b.schedule)) in (
      append_in_range (f2 ++ schedule ++ table bracket_row b.bracket) (map (whole 8) z11) (table_in_range bracket_row b.bracket (f2 ++ schedule) r2) (whole_in_range 8 z11),
      (
        (business_counts z7 (flat_map bracket_row b.business ++ z8) (length b.business) (next_business tail z7 l7) refl).few,
        business.in_range,
        business.marginal,
        (bracket_counts b.schedule.first_rate z10 (flat_map bracket_row b.bracket ++ z11) (length b.bracket) last refl).few,
        bracket.in_range,
        bracket.marginal,
        (age_counts z8 (flat_map age_row b.age ++ z9) (length b.age) (next_age tail z8 l8) refl).few,
        age.in_range,
        age.by_age,
      ),
    )

pub book_fits : (b : Book) → AreInRange (book_numbers b) → HasLists (BookFiled b) → FitAnywhere book_slots (numbers_of b)
book_fits b are lists =
    book_in_range b are.1.0 (record { few = lists.0; in_range = lists.1; marginal = lists.2 }) (record { few = lists.6; in_range = lists.7; by_age = lists.8 })
    (record { few = lists.3; in_range = lists.4; marginal = lists.5 })
