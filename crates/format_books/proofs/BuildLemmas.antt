-- The tables of a text whose fields have no error.
use Rattle.std.proofs.Common.{◌≡◌, ℕ, ◌≤◌, pos, true, None, codes, option_map, [], ◌∷◌, length, Option, Some, refl, arith}
use Rattle.std.specs.Prelude.{slice_get}
use Rattle.std.specs.List.{All, list_all}
use Rattle.std.proofs.lemmas.Int.{ints}
use Rattle.std.proofs.lemmas.List.{length-map}
use Rattle.toml.specs.Data.{Data, Members}
use Rattle.aid_types.specs.Nearest.{share}
use Rattle.aid_books.specs.Ages.{IsAgeRow, is_by_age}
use Rattle.aid_books.specs.Marginal.{IsBracket, is_marginal}
use Rattle.aid_types.specs.Ranges.{IsRate}
use Rattle.format_books.specs.Ranges.{range_named}
use Rattle.format_books.specs.Reading.{fields_error, has_range, items_in, member_at, rows_of}
use Rattle.format_books.specs.Tables.{age_row_of, age_rows, begins_ages, begins_business, begins_schedule, book_break, bracket_of, bracket_rows, break_in, business_rows, continues, first_rate_of, is_older}
use Rattle.format_books.specs.declared.table.Holds.TheVariants.{Integer, Tables}
use Rattle.format_books.proofs.NumbersLemmas.{field_sound, one_range}
use Rattle.format_books.proofs.TableLemmas.{ages_in_range, brackets_in_range, first_base, first_over, first_share, first_start, is_by_age_rows, is_marginal_rows, is_within, no_breaks}

-- how many rows a table has
pub record HasSize (top n : ℕ) : Type 0 where
  pub some : 1 ≤ n
  pub few : n ≤ top

size_of : (top : ℕ) (place : Option Data) → list_all (has_range (pos 1) (pos top) Tables) (place ∷ []) ≡ true → HasSize top (length (items_in place))
size_of top place h =
    let range = is_within (pos 1) (pos top) (pos (length (items_in place))) (one_range Tables (pos 1) (pos top) place h) in
    record { some = omega (arith, ints, range.0); few = omega (arith, ints, range.1) }

pub size-business : (t : Members) → fields_error t ≡ None → HasSize 16 (length (business_rows t))
unfolding range_named
size-business t h = rw (length-map (rows_of (codes "business") t) bracket_of) (size_of 16 _ (field_sound t h 38 _ refl).ranges)

pub size-age : (t : Members) → fields_error t ≡ None → HasSize 64 (length (age_rows t))
unfolding range_named
size-age t h = rw (length-map (rows_of (codes "age") t) age_row_of) (size_of 64 _ (field_sound t h 42 _ refl).ranges)

pub size-bracket : (t : Members) → fields_error t ≡ None → HasSize 16 (length (bracket_rows t))
unfolding range_named
size-bracket t h = rw (length-map (rows_of (codes "bracket") t) bracket_of) (size_of 16 _ (field_sound t h 51 _ refl).ranges)

pub range-business : (t : Members) → fields_error t ≡ None → All IsBracket (business_rows t)
unfolding range_named
range-business t h = brackets_in_range (rows_of (codes "business") t) (field_sound t h 39 _ refl).ranges (field_sound t h 40 _ refl).ranges (field_sound t h 41 _ refl).ranges

pub range-age : (t : Members) → fields_error t ≡ None → All IsAgeRow (age_rows t)
unfolding range_named
range-age t h = ages_in_range (rows_of (codes "age") t) (field_sound t h 43 _ refl).ranges (field_sound t h 44 _ refl).ranges (field_sound t h 45 _ refl).ranges

pub range-bracket : (t : Members) → fields_error t ≡ None → All IsBracket (bracket_rows t)
unfolding range_named
range-bracket t h = brackets_in_range (rows_of (codes "bracket") t) (field_sound t h 52 _ refl).ranges (field_sound t h 53 _ refl).ranges (field_sound t h 54 _ refl).ranges

pub range-first_rate : (t : Members) → fields_error t ≡ None → IsRate (first_rate_of t)
unfolding range_named
range-first_rate t h = is_within (pos 0) (pos 10000) (first_rate_of t) (one_range Integer (pos 0) (pos 10000) (member_at (codes "schedule") (codes "first_rate") t) (field_sound t h 48 _ refl).ranges)

-- the tables of a book, where no row fails
pub record HasTables (t : Members) : Type 0 where
  pub business_marginal : is_marginal (business_rows t) ≡ true
  pub business_over : option_map (λ row. row.over) (slice_get (business_rows t) 0) ≡ Some (pos 0)
  pub business_base : option_map (λ row. row.base) (slice_get (business_rows t) 0) ≡ Some (pos 0)
  pub age_rising : is_by_age (age_rows t) ≡ true
  pub age_start : option_map (λ row. row.start) (slice_get (age_rows t) 0) ≡ Some (pos 0)
  pub bracket_marginal : is_marginal (bracket_rows t) ≡ true
  pub bracket_base : option_map (λ row. row.base) (slice_get (bracket_rows t) 0) ≡ option_map (λ row. share row.over (first_rate_of t)) (slice_get (bracket_rows t) 0)

pub tables : (t : Members) → fields_error t ≡ None → book_break t ≡ None → HasTables t
tables t none h =
    let all = no_breaks (break_in begins_business continues (business_rows t)) (break_in begins_ages is_older (age_rows t)) (break_in (begins_schedule (first_rate_of t)) continues (bracket_rows t)) h in
    record {
      business_marginal = is_marginal_rows begins_business (business_rows t) (size-business t none).some all.first;
      business_over = first_over (business_rows t) (size-business t none).some all.first;
      business_base = first_base (business_rows t) (size-business t none).some all.first;
      age_rising = is_by_age_rows (age_rows t) (size-age t none).some all.second;
      age_start = first_start (age_rows t) (size-age t none).some all.second;
      bracket_marginal = is_marginal_rows (begins_schedule (first_rate_of t)) (bracket_rows t) (size-bracket t none).some all.third;
      bracket_base = first_share (first_rate_of t) (bracket_rows t) (size-bracket t none).some all.third;
    }
