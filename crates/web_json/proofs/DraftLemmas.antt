-- Numbers put one behind the other: some, and then more.
use Rattle.std.proofs.Common.{◌≡◌, ℕ, ℤ, List, [], ◌∷◌, ◌++◌, Some, None, Option, Bool, true, false, refl, sym, ap, ◌∙◌}
use Rattle.std.specs.Prelude.{option_and_then, option_map, if◌then◌else◌}
use Rattle.serde_json.specs.Data.{Data}
use Rattle.serde_json.specs.Find.{get, as_array}
use Rattle.format_table.specs.Draft.{Progress, accepts, onward}
use Rattle.format_table.specs.Parts.{Line, Slot}
use Rattle.web_json.specs.Drafts.{put_all, put_said}
use Rattle.web_json.specs.Values.{joined, member_said, number_said, numbers_said, one, row_said, rows_said, values_of}

pub put_all-append : (xs ys : List ℤ) (p : Progress) → put_all (xs ++ ys) p ≡ option_and_then (put_all ys) (put_all xs p)
put_all-append [] ys p = refl
put_all-append (x ∷ xs) ys p = by (put_all-append xs ys (onward p x)) (accepts p x)
  where
    by : put_all (xs ++ ys) (onward p x) ≡ option_and_then (put_all ys) (put_all xs (onward p x))
        → (b : Bool) → (if b then put_all (xs ++ ys) (onward p x) else None) ≡ option_and_then (put_all ys) (if b then put_all xs (onward p x) else None)
    by h true = h
    by h false = refl

-- there are none behind those that there aren't
none_behind : (o : Option Progress) → None ≡ option_and_then (put_said None) o
none_behind None = refl
none_behind (Some p) = refl

-- those of two parts are put one part behind the other
pub put_joined : (first more : Option (List ℤ)) (p : Progress) → put_said (joined first more) p ≡ option_and_then (put_said more) (put_said first p)
put_joined None more p = refl
put_joined (Some xs) None p = none_behind (put_all xs p)
put_joined (Some xs) (Some ys) p = put_all-append xs ys p

-- ---- the fields of an object
-- the first of them
pub put_field : (slot : Slot) (slots : List Slot) (d : Data) (p : Progress) (v : Option Data) → get slot.line.name d ≡ v
    → put_said (numbers_said (slot ∷ slots) d) p ≡ option_and_then (put_said (numbers_said slots d)) (put_said (option_and_then (member_said slot.first slot.line.form) v) p)
put_field slot slots d p v e =
    ap (λ v. put_said (joined (option_and_then (member_said slot.first slot.line.form) v) (numbers_said slots d)) p) e
    ∙ put_joined (option_and_then (member_said slot.first slot.line.form) v) (numbers_said slots d) p

-- ---- the values of a row
pub put_value : (column : Line) (columns : List Line) (d : Data) (ds : List Data) (p : Progress)
    → put_said (row_said (column ∷ columns) (d ∷ ds)) p ≡ option_and_then (put_said (row_said columns ds)) (put_said (one (number_said column.form d)) p)
put_value column columns d ds p = put_joined (one (number_said column.form d)) (row_said columns ds) p

-- ---- rows
pub put_rows : (columns : List Line) (d : Data) (ds : List Data) (p : Progress)
    → put_said (rows_said columns (d ∷ ds)) p
    ≡ option_and_then (put_said (rows_said columns ds)) (put_said (option_and_then (λ items. row_said columns (values_of items)) (as_array d)) p)
put_rows columns d ds p = put_joined (option_and_then (λ items. row_said columns (values_of items)) (as_array d)) (rows_said columns ds) p
