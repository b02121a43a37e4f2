-- How values of the TOML crate stand for the data that the definitions go over.
use Rattle.std.proofs.Common.{◌≡◌, ℕ, ℤ, List, [], ◌∷◌, map, Option, None, Bool, true, false, ◌&&◌, refl, ap}
use Rattle.std.specs.List.{list_all}
use Rattle.toml.specs.Data.{Data, get}
use Rattle.toml.specs.View.{items_view, view}
use Rattle.toml.specs.declared.value.Value.{Value}
use Rattle.std.specs.Prelude.{IsUtf8, is_some, if◌then◌else◌}
use Rattle.std.specs.Str.{is_utf8}
use Rattle.std.proofs.lemmas.Str.{IsUtf8-from_is_utf8}
use Rattle.toml.specs.Parse.{parse_document}
use Rattle.format_books.specs.Reading.{data_of, first_fault, has_kind, has_range, places_error, table_of}
use Rattle.format_books.specs.declared.table.Holds.TheVariants.{Column}

-- a text has no table where the grammar refuses it, if it is UTF-8 at all
pub no_table : (text : List ℕ) → (IsUtf8 text → parse_document text ≡ None) → table_of text ≡ None
no_table text h = by (is_utf8 text) refl
  where
    by : (b : Bool) → is_utf8 text ≡ b → (if b then parse_document text else None) ≡ None
    by true e = h (IsUtf8-from_is_utf8 text e)
    by false e = refl

-- the items that some values stand for
pub data_of-items_view : (vs : List Value) → data_of (items_view vs) ≡ map view vs
data_of-items_view [] = refl
data_of-items_view (v ∷ vs) = ap (λ ds. view v ∷ ds) (data_of-items_view vs)

-- the places of a column, in the words of the rows
column_places : (p : Option Data → Bool) (key : List ℕ) (rows : List Value) → list_all p (map (get key) (map view rows)) ≡ list_all (λ row. p (get key (view row))) rows
column_places p key [] = refl
column_places p key (row ∷ rows) = ap (λ b. p (get key (view row)) && b) (column_places p key rows)

pub column_error : (field : ℕ) (low high : ℤ) (key : List ℕ) (rows : List Value) → places_error field Column low high (map (get key) (map view rows))
    ≡ first_fault field (list_all (λ row. is_some (get key (view row))) rows) (list_all (λ row. has_kind Column (get key (view row))) rows) (list_all (λ row. has_range low high Column (get key (view row))) rows)
column_error field low high key rows =
    let there = column_places is_some key rows in
    let kind = column_places (has_kind Column) key rows in
    let range = column_places (has_range low high Column) key rows in
    λ i. first_fault field (there i) (kind i) (range i)
