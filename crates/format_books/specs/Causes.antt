-- What the errors of a year book's text say of it.
use Rattle.std.specs.Prelude.{◌≡◌, ◌≢◌, ℕ, zero, suc, ◌<◌, pos, ◌<ℤ◌, Bool, true, false, List, length, Option, Some, None, is_some, slice_get}
use Rattle.std.specs.Cmp.Lexicographic.{slice_cmp}
use Rattle.std.specs.List.{All, Contains}
use Rattle.std.specs.Ordering.{nat_cmp}
use Rattle.std.specs.declared.cmp.Ordering.TheVariants.{Less}
use Rattle.toml.specs.Data.{Data, Members}
use Rattle.aid_types.specs.Nearest.{share}
use Rattle.aid_books.specs.Marginal.{row_value}
use Rattle.aid_books.specs.declared.marginal.Bracket.{Bracket}
use Rattle.format_books.specs.Fields.{BookLine}
use Rattle.format_books.specs.Ranges.{range_named}
use Rattle.format_books.specs.Reading.{fields_of, has_kind, has_range, is_form_2, limit, places_of, table_of}
use Rattle.format_books.specs.Tables.{age_rows, bracket_rows, business_rows, first_rate_of}
use Rattle.format_books.specs.Unknown.{unknown_names}

-- ---- the fields
-- the places of a field, which are many for a column
abbrev pub places : BookLine → Members → List (Option Data)
places f t = places_of f.kind f.section f.key t

-- the numbers at a place of a field are in its range
abbrev pub is_in_range : BookLine → Members → Option Data → Bool
is_in_range f t place = has_range (range_named f.name).low (limit (range_named f.name).high f.section t) f.kind place

-- at each place of a field stands what is of its kind, with numbers in its range
pub record IsWell (f : BookLine) (t : Members) : Type 0 where
  pub kind : All (λ place. has_kind f.kind place ≡ true) (places f t)
  pub range : All (λ place. is_in_range f t place ≡ true) (places f t)

-- this is the field of the number, and each field before it is well
pub record IsFirst (t : Members) (field : ℕ) (f : BookLine) : Type 0 where
  pub before : ℕ
  pub here : slice_get (fields_of t) before ≡ Some f
  pub number : f.number ≡ field
  pub earlier : (k : ℕ) (g : BookLine) → k < before → slice_get (fields_of t) k ≡ Some g → IsWell g t

-- the first field that isn't well has a place where nothing stands
pub record IsMissing (t : Members) (field : ℕ) : Type 0 where
  pub missing : BookLine
  pub first : IsFirst t field missing
  pub empty : Contains (places missing t) None

-- something stands at all of its places, and at one of them what is not of its kind
pub record IsWrongKind (t : Members) (field : ℕ) : Type 0 where
  pub wrong : BookLine
  pub first : IsFirst t field wrong
  pub there : All (λ place. is_some place ≡ true) (places wrong t)
  pub place : Option Data
  pub stands : Contains (places wrong t) place
  pub other : has_kind wrong.kind place ≡ false

-- what is of its kind stands at all of its places, and at one of them a number that is not in its range
pub record IsOutOfRange (t : Members) (field : ℕ) : Type 0 where
  pub outside : BookLine
  pub first : IsFirst t field outside
  pub kind : All (λ place. has_kind outside.kind place ≡ true) (places outside t)
  pub place : Option Data
  pub stands : Contains (places outside t) place
  pub other : is_in_range outside t place ≡ false

-- ---- the rows of the tables
-- row k, counted from 0, begins the table, or goes on from the one before it
abbrev pub GoesOn : {Row : Type 0} → (Row → Type 0) → (Row → Row → Type 0) → List Row → ℕ → Type 0
GoesOn {Row = Row} Begins Goes rows zero = (row : Row) → slice_get rows 0 ≡ Some row → Begins row
GoesOn {Row = Row} Begins Goes rows (suc k) = (row next : Row) → slice_get rows k ≡ Some row → slice_get rows (suc k) ≡ Some next → Goes row next

-- a row by amount begins above the one before it, with the value that the one before it has there
pub record Continues (row next : Bracket) : Type 0 where
  pub above : row.over <ℤ next.over
  pub base : next.base ≡ row_value row next.over

-- `business` begins at 0 with 0, `age` at 0, and `bracket` with what the schedule's first rate gives there
abbrev pub BusinessGoesOn : Members → ℕ → Type 0
BusinessGoesOn t k = GoesOn (λ row. (row.over ≡ pos 0) × (row.base ≡ pos 0)) Continues (business_rows t) k

abbrev pub AgeGoesOn : Members → ℕ → Type 0
AgeGoesOn t k = GoesOn (λ row. row.start ≡ pos 0) (λ row next. row.start <ℤ next.start) (age_rows t) k

abbrev pub BracketGoesOn : Members → ℕ → Type 0
BracketGoesOn t k = GoesOn (λ row. row.base ≡ share row.over (first_rate_of t)) Continues (bracket_rows t) k

-- of so many rows the row of this number, counted from 1, is the first that doesn't
pub record IsFirstToFail (GoesOnAt : ℕ → Type 0) (count row : ℕ) : Type 0 where
  pub before : ℕ
  pub number : row ≡ suc before
  pub there : before < count
  pub fails : GoesOnAt before → ⊥
  pub earlier : (k : ℕ) → k < before → GoesOnAt k

-- a row of table 1, 2 or 3 is the first of its table that fails, and none of the tables before it does
pub data FailsAt (t : Members) (table row : ℕ) : Type 0 where
  in_business : table ≡ 1 → IsFirstToFail (BusinessGoesOn t) (length (business_rows t)) row → FailsAt t table row
  in_age : table ≡ 2 → ((k : ℕ) → BusinessGoesOn t k) → IsFirstToFail (AgeGoesOn t) (length (age_rows t)) row → FailsAt t table row
  in_bracket : table ≡ 3 → ((k : ℕ) → BusinessGoesOn t k) → ((k : ℕ) → AgeGoesOn t k) → IsFirstToFail (BracketGoesOn t) (length (bracket_rows t)) row → FailsAt t table row

-- all fields are well, and this row is the first that fails
pub record IsNotRising (t : Members) (table row : ℕ) : Type 0 where
  pub fields : (k : ℕ) (f : BookLine) → slice_get (fields_of t) k ≡ Some f → IsWell f t
  pub fails : FailsAt t table row

-- ---- the keys
-- this is the name of a key that a book doesn't have, and no other such name is less by its bytes
pub record IsLeastUnknown (t : Members) (name : List ℕ) : Type 0 where
  pub unknown : Contains (unknown_names (is_form_2 t) t) name
  pub least : All (λ other. slice_cmp nat_cmp other name ≢ Less) (unknown_names (is_form_2 t) t)

-- ---- of a text, which has a table
abbrev pub OfTable : (Members → Type 0) → List ℕ → Type 0
OfTable P text = (t : Members) × (table_of text ≡ Some t) × P t
