-- The rows of tables among the numbers of a book.
use Rattle.std.proofs.Common.{◌≡◌, ℕ, zero, suc, ℤ, pos, ◌≤ℤ◌, int_le, int_lt, true, ◌&&◌, List, [], ◌∷◌, ◌++◌, length, Some, option_map, codes, refl, ap, arith}
use Rattle.std.specs.Prelude.{flat_map, slice_get}
use Rattle.std.specs.List.{All}
use Rattle.std.specs.Ordering.{int_eq}
use Rattle.std.proofs.lemmas.Bool.{and_parts, and_from}
use Rattle.std.proofs.lemmas.Bool.Decides.{Decides-int_eq}
use Rattle.std.proofs.lemmas.Int.{ints}
use Rattle.aid_types.specs.Nearest.{share}
use Rattle.aid_types.specs.Ranges.{IsWithin}
use Rattle.aid_books.specs.Ages.{IsAgeRow, IsByAge, rises_from}
use Rattle.aid_books.specs.Marginal.{IsBracket, IsMarginal, goes_on, row_value}
use Rattle.aid_books.specs.declared.ages.AgeRow.{AgeRow}
use Rattle.aid_books.specs.declared.marginal.Bracket.{Bracket}
use Rattle.format_kinds.proofs.Plain.{is_within}
use Rattle.format_kinds.specs.Book.{age_numbers, age_row, bracket_numbers, bracket_row}
use Rattle.format_kinds.specs.Sections.{age_slots, bracket_slots, business_slots}
use Rattle.format_kinds.specs.Kinds.{age_columns, amount_columns}
use Rattle.format_table.specs.Layout.{AreNumbers, rows, rows_again}
use Rattle.format_table.specs.Limits.{before, is_between}
use Rattle.format_table.specs.Parts.{Line, Slot}
use Rattle.format_table.specs.declared.field.Limit.TheVariants.{AboveRow, Continues}

all_none : {X : Type 0} (P : X → Type 0) → All P []
all_none P k d h = absurd (omega (arith, h))

all_cons : {X : Type 0} (P : X → Type 0) (x : X) (xs : List X) → P x → All P xs → All P (x ∷ xs)
all_cons P x xs first others zero d h = first
all_cons P x xs first others (suc k) d h = others k d (omega (arith, h))

-- the fields of each later row of a table by amount, and of the one by age
abbrev pub bracket_lines : List ℕ → List Line
bracket_lines name = amount_columns name (AboveRow (pos 99999999)) (Continues (pos 99999999))

abbrev pub age_lines : List Line
age_lines = age_columns (AboveRow (pos 120))

record AreLater (row : Bracket) (rows : List Bracket) : Type 0 where
  pub in_range : All IsBracket rows
  pub goes_on : goes_on row rows ≡ true

later_brackets : (name : List ℕ) (slots : List Slot) (zs : List ℤ) (row : Bracket) (rows : List Bracket) (earlier : List ℤ) → pos 0 ≤ℤ row.over
    → AreNumbers (rows_again (length rows) (bracket_lines name) ++ slots) (row.rate ∷ row.base ∷ row.over ∷ earlier) (flat_map bracket_row rows ++ zs) → AreLater row rows
later_brackets name slots zs row [] earlier low h = record { in_range = all_none IsBracket; goes_on = refl }
later_brackets name slots zs row (next ∷ rows) earlier low h =
    let above = and_parts (int_lt row.over next.over) (int_le next.over (pos 99999999)) h.0 in
    let continues = and_parts (int_eq next.base (row_value row next.over)) (is_between (pos 0) (pos 99999999) next.base) h.1.0 in
    let least : pos 0 ≤ℤ next.over = omega (arith, ints, above.0) in
    let greatest : next.over ≤ℤ pos 99999999 = omega (arith, ints, above.1) in
    let rest = later_brackets name slots zs next rows (row.rate ∷ row.base ∷ row.over ∷ earlier) least h.1.1.1 in
    record {
      in_range = all_cons IsBracket next rows (record { over = (least, greatest); base = is_within (pos 0) (pos 99999999) next.base continues.1; rate = is_within (pos 0) (pos 10000) next.rate h.1.1.0 }) rest.in_range;
      goes_on = and_from (int_lt row.over next.over && int_eq next.base (row_value row next.over)) (goes_on next rows)
          (and_from (int_lt row.over next.over) (int_eq next.base (row_value row next.over)) above.0 continues.0) rest.goes_on;
    }

record AreOlder (row : AgeRow) (rows : List AgeRow) : Type 0 where
  pub in_range : All IsAgeRow rows
  pub rises : rises_from row rows ≡ true

later_ages : (slots : List Slot) (zs : List ℤ) (row : AgeRow) (rows : List AgeRow) (earlier : List ℤ) → pos 0 ≤ℤ row.start
    → AreNumbers (rows_again (length rows) age_lines ++ slots) (row.married ∷ row.single ∷ row.start ∷ earlier) (flat_map age_row rows ++ zs) → AreOlder row rows
later_ages slots zs row [] earlier low h = record { in_range = all_none IsAgeRow; rises = refl }
later_ages slots zs row (next ∷ rows) earlier low h =
    let above = and_parts (int_lt row.start next.start) (int_le next.start (pos 120)) h.0 in
    let least : pos 0 ≤ℤ next.start = omega (arith, ints, above.0) in
    let greatest : next.start ≤ℤ pos 120 = omega (arith, ints, above.1) in
    let rest = later_ages slots zs next rows (row.married ∷ row.single ∷ row.start ∷ earlier) least h.1.1.1 in
    record {
      in_range = all_cons IsAgeRow next rows (record { start = (least, greatest); single = is_within (pos 0) (pos 99999999) next.single h.1.0; married = is_within (pos 0) (pos 99999999) next.married h.1.1.0 }) rest.in_range;
      rises = and_from (int_lt row.start next.start) (rises_from next rows) above.0 rest.rises;
    }

zero_within : (z : ℤ) → IsWithin (pos 0) (pos 0) z → z ≡ pos 0
zero_within z h = omega (arith, ints, h.0, h.1)

-- what is known of the rows of `business`
pub record IsBusiness (rows : List Bracket) : Type 0 where
  pub in_range : All IsBracket rows
  pub marginal : IsMarginal rows
  pub over : option_map (λ row. row.over) (slice_get rows 0) ≡ Some (pos 0)
  pub base : option_map (λ row. row.base) (slice_get rows 0) ≡ Some (pos 0)

pub business_rows : (slots : List Slot) (earlier zs : List ℤ) (rows : List Bracket) → AreNumbers (business_slots ++ slots) earlier (bracket_numbers rows ++ zs) → IsBusiness rows
business_rows slots earlier zs [] h = absurd (omega (arith, ints, (is_within (pos 1) (pos 16) (pos 0) h.0).0))
business_rows slots earlier zs (row ∷ rows) h =
    let over = is_within (pos 0) (pos 0) row.over h.1.0 in
    let base = is_within (pos 0) (pos 0) row.base h.1.1.0 in
    let least : pos 0 ≤ℤ row.over = over.0 in
    let later = later_brackets (codes "business") slots zs row rows (pos (suc (length rows)) ∷ earlier) least h.1.1.1.1 in
    record {
      in_range = all_cons IsBracket row rows (record { over = (omega (arith, ints, over.0), omega (arith, ints, over.1)); base = (omega (arith, ints, base.0), omega (arith, ints, base.1)); rate = is_within (pos 0) (pos 10000) row.rate h.1.1.1.0 }) later.in_range;
      marginal = later.goes_on;
      over = ap Some (zero_within row.over over);
      base = ap Some (zero_within row.base base);
    }

-- what is known of the rows of `age`
pub record IsAge (rows : List AgeRow) : Type 0 where
  pub in_range : All IsAgeRow rows
  pub by_age : IsByAge rows
  pub start : option_map (λ row. row.start) (slice_get rows 0) ≡ Some (pos 0)

pub age_rows : (slots : List Slot) (earlier zs : List ℤ) (rows : List AgeRow) → AreNumbers (age_slots ++ slots) earlier (age_numbers rows ++ zs) → IsAge rows
age_rows slots earlier zs [] h = absurd (omega (arith, ints, (is_within (pos 1) (pos 64) (pos 0) h.0).0))
age_rows slots earlier zs (row ∷ rows) h =
    let start = is_within (pos 0) (pos 0) row.start h.1.0 in
    let least : pos 0 ≤ℤ row.start = start.0 in
    let later = later_ages slots zs row rows (pos (suc (length rows)) ∷ earlier) least h.1.1.1.1 in
    record {
      in_range = all_cons IsAgeRow row rows (record { start = (omega (arith, ints, start.0), omega (arith, ints, start.1)); single = is_within (pos 0) (pos 99999999) row.single h.1.1.0; married = is_within (pos 0) (pos 99999999) row.married h.1.1.1.0 }) later.in_range;
      by_age = later.rises;
      start = ap Some (zero_within row.start start);
    }

-- what is known of the rows of `bracket`
pub record IsBrackets (first_rate : ℤ) (rows : List Bracket) : Type 0 where
  pub in_range : All IsBracket rows
  pub marginal : IsMarginal rows
  pub base : option_map (λ row. row.base) (slice_get rows 0) ≡ option_map (λ row. share row.over first_rate) (slice_get rows 0)

pub brackets_rows : (slots : List Slot) (earlier zs : List ℤ) (rows : List Bracket) → AreNumbers (bracket_slots ++ slots) earlier (bracket_numbers rows ++ zs) → IsBrackets (before earlier 2) rows
brackets_rows slots earlier zs [] h = absurd (omega (arith, ints, (is_within (pos 1) (pos 16) (pos 0) h.0).0))
brackets_rows slots earlier zs (row ∷ rows) h =
    let over = is_within (pos 0) (pos 99999999) row.over h.1.0 in
    let begins = and_parts (int_eq row.base (share row.over (before earlier 2))) (is_between (pos 0) (pos 99999999) row.base) h.1.1.0 in
    let least : pos 0 ≤ℤ row.over = over.0 in
    let later = later_brackets (codes "bracket") slots zs row rows (pos (suc (length rows)) ∷ earlier) least h.1.1.1.1 in
    record {
      in_range = all_cons IsBracket row rows (record { over = over; base = is_within (pos 0) (pos 99999999) row.base begins.1; rate = is_within (pos 0) (pos 10000) row.rate h.1.1.1.0 }) later.in_range;
      marginal = later.goes_on;
      base = ap Some ((Decides-int_eq row.base (share row.over (before earlier 2))).0 begins.0);
    }
