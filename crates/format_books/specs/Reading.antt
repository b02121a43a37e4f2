-- What a text gives at the fields of a year book, and the first error of its fields.
use Rattle.std.specs.Prelude.{ℕ, ℤ, pos, codes, List, [], ◌∷◌, ◌==◌, ◌&&◌, map, length, Bool, false, Option, Some, None, is_some, option_and_then, unwrap_or, if◌then◌else◌}
use Rattle.std.specs.List.{list_all}
use Rattle.std.specs.Option.{option_or}
use Rattle.std.specs.Ordering.{int_eq}
use Rattle.std.specs.Str.{is_utf8}
use Rattle.toml.specs.Data.{Data, Items, no_items, item, Members, get, get_member, as_array, as_integer, as_table}
use Rattle.toml.specs.Parse.{parse_document}
use Rattle.format_table.specs.Limits.{is_between}
use Rattle.format_books.specs.Fields.{BookLine, first_fields, table_fields}
use Rattle.format_books.specs.Ranges.{Greatest, Range, number_at, range_named, up_to}
use Rattle.format_books.specs.declared.table.Holds.{Holds}
use Rattle.format_books.specs.declared.table.Holds.TheVariants.{Integer, Integers, Tables, Column}
use Rattle.format_books.specs.declared.error.BookError.{BookError}
use Rattle.format_books.specs.declared.error.BookError.TheVariants.{Missing, WrongKind, OutOfRange}

-- the text's TOML table, which bytes that are no UTF-8 don't have
abbrev pub table_of : List ℕ → Option Members
table_of text = if is_utf8 text then parse_document text else None

-- the items of an array as a list
abbrev pub data_of : Items → List Data
data_of no_items = []
data_of (item d ds) = d ∷ data_of ds

abbrev pub listed : Option Items → List Data
listed None = []
listed (Some ds) = data_of ds

-- what stands at a key of the top, or of a section; nothing does where the section is no table
abbrev pub member_at : List ℕ → List ℕ → Members → Option Data
member_at [] key t = get_member key t
member_at (s ∷ section) key t = option_and_then (get key) (get_member (s ∷ section) t)

-- the integer at a place, or 0 where none stands there
abbrev pub integer_in : Option Data → ℤ
integer_in place = unwrap_or (option_and_then as_integer place) (pos 0)

-- the items of the array at a place, or none where no array stands there
abbrev pub items_in : Option Data → List Data
items_in place = listed (option_and_then as_array place)

-- the rows of the array at a key of the top
abbrev pub rows_of : List ℕ → Members → List Data
rows_of key t = items_in (get_member key t)

-- the places of a field: one, or for a column one in each row
abbrev pub places_of : Holds → List ℕ → List ℕ → Members → List (Option Data)
places_of Column section key t = map (get key) (rows_of section t)
places_of _ section key t = member_at section key t ∷ []

-- what stands at a place is of the kind
abbrev pub is_of_kind : Holds → Data → Bool
is_of_kind Integer d = is_some (as_integer d)
is_of_kind (Integers n) d = is_some (as_array d) && (length (listed (as_array d)) == n && list_all (λ item. is_some (as_integer item)) (listed (as_array d)))
is_of_kind Tables d = is_some (as_array d) && list_all (λ item. is_some (as_table item)) (listed (as_array d))
is_of_kind Column d = is_some (as_integer d)

abbrev pub has_kind : Holds → Option Data → Bool
has_kind kind None = false
has_kind kind (Some d) = is_of_kind kind d

-- the numbers at a place of the kind go from low to high: its integers, or how many tables there are
abbrev pub has_range : ℤ → ℤ → Holds → Option Data → Bool
has_range low high Integer place = is_between low high (integer_in place)
has_range low high (Integers n) place = list_all (λ item. is_between low high (integer_in (Some item))) (items_in place)
has_range low high Tables place = is_between low high (pos (length (items_in place)))
has_range low high Column place = is_between low high (integer_in place)

-- the greatest number of a field
abbrev pub limit : Greatest → List ℕ → Members → ℤ
limit (up_to z) section t = z
limit (number_at key) section t = integer_in (member_at section key t)

-- what is missing comes before what is of the wrong kind, and that before what is out of range
abbrev pub first_fault : ℕ → Bool → Bool → Bool → Option BookError
first_fault field there kind range = if there then (if kind then (if range then None else Some (OutOfRange field)) else Some (WrongKind field)) else Some (Missing field)

abbrev pub places_error : ℕ → Holds → ℤ → ℤ → List (Option Data) → Option BookError
places_error field kind low high places = first_fault field (list_all is_some places) (list_all (has_kind kind) places) (list_all (has_range low high kind) places)

-- what is wrong with a field of this range, if anything is
abbrev pub error_in : Range → BookLine → Members → Option BookError
error_in range f t = places_error f.number f.kind range.low (limit range.high f.section t) (places_of f.kind f.section f.key t)

abbrev pub field_error : BookLine → Members → Option BookError
field_error f t = error_in (range_named f.name) f t

-- the first error of some fields
abbrev pub first_error : List BookLine → Members → Option BookError
first_error [] t = None
first_error (f ∷ fs) t = option_or (field_error f t) (first_error fs t)

-- a text is of form 2 where that integer stands under `form`
abbrev pub is_form_2 : Members → Bool
is_form_2 t = int_eq (integer_in (member_at [] (codes "form") t)) (pos 2)

-- the fields of a text of form 2, or of any other
unfoldable pub fields_in_form : Bool → List BookLine
fields_in_form b = if b then table_fields else first_fields

abbrev pub fields_of : Members → List BookLine
fields_of t = fields_in_form (is_form_2 t)

-- the first error of a text's fields
unfoldable pub fields_error : Members → Option BookError
fields_error t = first_error (fields_of t) t
