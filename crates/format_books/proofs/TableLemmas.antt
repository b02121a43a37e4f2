-- The rows of tables, their columns, and what it says that no row fails.
use Rattle.std.proofs.Common.{◌≡◌, ℕ, zero, suc, ◌≤◌, ℤ, pos, int_le, Bool, true, false, ◌&&◌, List, [], ◌∷◌, codes, map, length, Option, Some, None, option_map, refl, ap, arith}
use Rattle.std.specs.Prelude.{slice_get, if◌then◌else◌}
use Rattle.std.specs.List.{All, list_all}
use Rattle.std.specs.Ordering.{int_eq}
use Rattle.std.proofs.lemmas.Bool.Decides.{Decides-int_eq}
use Rattle.std.proofs.lemmas.Bool.{and_from, and_parts}
use Rattle.std.proofs.lemmas.Int.{ints}
use Rattle.aid_types.specs.Nearest.{share}
use Rattle.aid_books.specs.Ages.{IsAgeRow, is_by_age, rises_from}
use Rattle.aid_books.specs.Marginal.{IsBracket, goes_on, is_marginal}
use Rattle.aid_books.specs.declared.ages.AgeRow.{AgeRow}
use Rattle.aid_books.specs.declared.marginal.Bracket.{Bracket}
use Rattle.format_table.specs.Limits.{is_between}
use Rattle.toml.specs.Data.{Data, get}
use Rattle.format_books.specs.Reading.{has_range, integer_in}
use Rattle.format_books.specs.declared.table.Holds.TheVariants.{Column}
use Rattle.format_books.specs.Tables.{age_row_of, begins_ages, begins_business, begins_schedule, bracket_of, break_from, break_in, continues, first_break, is_older}
use Rattle.aid_types.specs.Ranges.{IsWithin}

pub is_within : (low high z : ℤ) → is_between low high z ≡ true → IsWithin low high z
is_within low high z h =
    let both = and_parts (int_le low z) (int_le z high) h in
    (omega (arith, ints, both.0), omega (arith, ints, both.1))

all_cons : {X : Type 0} (P : X → Type 0) (x : X) (xs : List X) → P x → All P xs → All P (x ∷ xs)
all_cons P x xs first others zero d h = first
all_cons P x xs first others (suc k) d h = others k d (omega (arith, h))

-- rows whose columns are in range are in range
abbrev are_between : ℤ → ℤ → List ℕ → List Data → Bool
are_between low high key rows = list_all (has_range low high Column) (map (get key) rows)

column_parts : (low high : ℤ) (key : List ℕ) (row : Data) (rows : List Data) → are_between low high key (row ∷ rows) ≡ true
    → IsWithin low high (integer_in (get key row)) × (are_between low high key rows ≡ true)
column_parts low high key row rows h =
    let both = and_parts (has_range low high Column (get key row)) (are_between low high key rows) h in
    (is_within low high (integer_in (get key row)) both.0, both.1)

pub brackets_in_range : (rows : List Data) → are_between (pos 0) (pos 99999999) (codes "over") rows ≡ true → are_between (pos 0) (pos 99999999) (codes "base") rows ≡ true
    → are_between (pos 0) (pos 10000) (codes "rate") rows ≡ true → All IsBracket (map bracket_of rows)
brackets_in_range [] x y z = λ k d h. absurd (omega (arith, h))
brackets_in_range (row ∷ rows) x y z =
    let a = column_parts (pos 0) (pos 99999999) (codes "over") row rows x in
    let b = column_parts (pos 0) (pos 99999999) (codes "base") row rows y in
    let c = column_parts (pos 0) (pos 10000) (codes "rate") row rows z in
    all_cons IsBracket (bracket_of row) (map bracket_of rows) (record { over = a.0; base = b.0; rate = c.0 }) (brackets_in_range rows a.1 b.1 c.1)

pub ages_in_range : (rows : List Data) → are_between (pos 0) (pos 120) (codes "from") rows ≡ true → are_between (pos 0) (pos 99999999) (codes "single") rows ≡ true
    → are_between (pos 0) (pos 99999999) (codes "married") rows ≡ true → All IsAgeRow (map age_row_of rows)
ages_in_range [] x y z = λ k d h. absurd (omega (arith, h))
ages_in_range (row ∷ rows) x y z =
    let a = column_parts (pos 0) (pos 120) (codes "from") row rows x in
    let b = column_parts (pos 0) (pos 99999999) (codes "single") row rows y in
    let c = column_parts (pos 0) (pos 99999999) (codes "married") row rows z in
    all_cons IsAgeRow (age_row_of row) (map age_row_of rows) (record { start = a.0; single = b.0; married = c.0 }) (ages_in_range rows a.1 b.1 c.1)

-- no row fails
pub record Begins {Row : Type 0} (begins : Row → Bool) (goes : Row → Row → Bool) (row : Row) (rows : List Row) : Type 0 where
  pub first : begins row ≡ true
  pub later : break_from goes 2 row rows ≡ None

pub no_break : {Row : Type 0} (begins : Row → Bool) (goes : Row → Row → Bool) (row : Row) (rows : List Row) → break_in begins goes (row ∷ rows) ≡ None → Begins begins goes row rows
no_break begins goes row rows h = by (begins row) refl h
  where
    by : (b : Bool) → begins row ≡ b → (if b then break_from goes 2 row rows else Some 1) ≡ None → Begins begins goes row rows
    by true e k = record { first = e; later = k }
    by false e k = cc

pub goes_on_all : (n : ℕ) (row : Bracket) (rows : List Bracket) → break_from continues n row rows ≡ None → goes_on row rows ≡ true
goes_on_all n row [] h = refl
goes_on_all n row (next ∷ rows) h = by (goes_on_all (suc n) next rows) (continues row next) refl h
  where
    by : (break_from continues (suc n) next rows ≡ None → goes_on next rows ≡ true) → (b : Bool) → continues row next ≡ b
        → (if b then break_from continues (suc n) next rows else Some n) ≡ None → (continues row next && goes_on next rows) ≡ true
    by rest true e k = and_from (continues row next) (goes_on next rows) e (rest k)
    by rest false e k = cc

pub rises_all : (n : ℕ) (row : AgeRow) (rows : List AgeRow) → break_from is_older n row rows ≡ None → rises_from row rows ≡ true
rises_all n row [] h = refl
rises_all n row (next ∷ rows) h = by (rises_all (suc n) next rows) (is_older row next) refl h
  where
    by : (break_from is_older (suc n) next rows ≡ None → rises_from next rows ≡ true) → (b : Bool) → is_older row next ≡ b
        → (if b then break_from is_older (suc n) next rows else Some n) ≡ None → (is_older row next && rises_from next rows) ≡ true
    by rest true e k = and_from (is_older row next) (rises_from next rows) e (rest k)
    by rest false e k = cc

-- no table has a row that fails
pub record NoBreaks (one two three : Option ℕ) : Type 0 where
  pub first : one ≡ None
  pub second : two ≡ None
  pub third : three ≡ None

pub no_breaks : (one two three : Option ℕ) → first_break one two three ≡ None → NoBreaks one two three
no_breaks (Some x) two three h = cc
no_breaks None (Some x) three h = cc
no_breaks None None (Some x) h = cc
no_breaks None None None h = record { first = refl; second = refl; third = refl }

-- what it says of a table that has a row
pub is_marginal_rows : (begins : Bracket → Bool) (rows : List Bracket) → 1 ≤ length rows → break_in begins continues rows ≡ None → is_marginal rows ≡ true
is_marginal_rows begins [] some h = absurd (omega (arith, some))
is_marginal_rows begins (row ∷ rows) some h = goes_on_all 2 row rows (no_break begins continues row rows h).later

pub is_by_age_rows : (rows : List AgeRow) → 1 ≤ length rows → break_in begins_ages is_older rows ≡ None → is_by_age rows ≡ true
is_by_age_rows [] some h = absurd (omega (arith, some))
is_by_age_rows (row ∷ rows) some h = rises_all 2 row rows (no_break begins_ages is_older row rows h).later

int_eq-true : (a b : ℤ) → int_eq a b ≡ true → a ≡ b
int_eq-true a b h = (Decides-int_eq a b).0 h

pub first_over : (rows : List Bracket) → 1 ≤ length rows → break_in begins_business continues rows ≡ None → option_map (λ row. row.over) (slice_get rows 0) ≡ Some (pos 0)
first_over [] some h = absurd (omega (arith, some))
first_over (row ∷ rows) some h =
    ap Some (int_eq-true row.over (pos 0) (and_parts (int_eq row.over (pos 0)) (int_eq row.base (pos 0)) (no_break begins_business continues row rows h).first).0)

pub first_base : (rows : List Bracket) → 1 ≤ length rows → break_in begins_business continues rows ≡ None → option_map (λ row. row.base) (slice_get rows 0) ≡ Some (pos 0)
first_base [] some h = absurd (omega (arith, some))
first_base (row ∷ rows) some h =
    ap Some (int_eq-true row.base (pos 0) (and_parts (int_eq row.over (pos 0)) (int_eq row.base (pos 0)) (no_break begins_business continues row rows h).first).1)

pub first_start : (rows : List AgeRow) → 1 ≤ length rows → break_in begins_ages is_older rows ≡ None → option_map (λ row. row.start) (slice_get rows 0) ≡ Some (pos 0)
first_start [] some h = absurd (omega (arith, some))
first_start (row ∷ rows) some h = ap Some (int_eq-true row.start (pos 0) (no_break begins_ages is_older row rows h).first)

pub first_share : (first_rate : ℤ) (rows : List Bracket) → 1 ≤ length rows → break_in (begins_schedule first_rate) continues rows ≡ None
    → option_map (λ row. row.base) (slice_get rows 0) ≡ option_map (λ row. share row.over first_rate) (slice_get rows 0)
first_share first_rate [] some h = absurd (omega (arith, some))
first_share first_rate (row ∷ rows) some h =
    ap Some (int_eq-true row.base (share row.over first_rate) (no_break (begins_schedule first_rate) continues row rows h).first)
