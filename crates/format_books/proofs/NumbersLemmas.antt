-- What it says of a field of a text that the text's fields have no error.
use Rattle.std.proofs.Common.{◌≡◌, ℕ, zero, suc, ℤ, pos, Bool, true, false, ◌==◌, ◌&&◌, List, [], ◌∷◌, codes, length, map, take, Option, Some, None, refl, ap, subst, ◌∙◌}
use Rattle.std.specs.Prelude.{is_some, slice_get}
use Rattle.std.specs.List.{list_all}
use Rattle.std.specs.Option.{option_or}
use Rattle.std.proofs.lemmas.Bool.{and_parts, eqb-true}
use Rattle.std.proofs.lemmas.List.Folds.{list_all-map}
use Rattle.std.proofs.lemmas.List.{length-map}
use Rattle.toml.specs.Data.{Data, Members, as_array, as_integer}
use Rattle.aid_types.specs.Ranges.{EachIsAmount}
use Rattle.format_table.specs.Limits.{is_between}
use Rattle.format_books.specs.Fields.{BookLine, first_fields, table_fields}
use Rattle.format_books.specs.Ranges.{range_named}
use Rattle.format_books.specs.Reading.{field_error, fields_error, fields_in_form, first_error, first_fault, has_kind, has_range, integer_in, is_form_2, items_in, limit, listed, member_at, places_error, places_of}
use Rattle.format_books.specs.declared.error.BookError.{BookError}
use Rattle.format_books.specs.declared.table.Holds.{Holds}
use Rattle.format_books.specs.declared.table.Holds.TheVariants.{Integer, Integers}

-- where some fields have no error, none of them has one
pub no_error : (fs : List BookLine) (t : Members) → first_error fs t ≡ None → (k : ℕ) (f : BookLine) → slice_get fs k ≡ Some f → field_error f t ≡ None
no_error [] t h k f at = cc
no_error (g ∷ fs) t h k f at = by (no_error fs t) (field_error g t) refl h k at
  where
    by : (first_error fs t ≡ None → (k : ℕ) (f : BookLine) → slice_get fs k ≡ Some f → field_error f t ≡ None) → (o : Option BookError) → field_error g t ≡ o
        → option_or o (first_error fs t) ≡ None → (k : ℕ) → slice_get (g ∷ fs) k ≡ Some f → field_error f t ≡ None
    by rest (Some e) is n k at = cc
    by rest None is n zero at = let same : g ≡ f = cc in subst (λ (x : BookLine). field_error x t ≡ None) same is
    by rest None is n (suc k) at = rest n k f at

-- what stands at the places of a field without error
pub record IsSound (kind : Holds) (low high : ℤ) (places : List (Option Data)) : Type 0 where
  pub kinds : list_all (has_kind kind) places ≡ true
  pub ranges : list_all (has_range low high kind) places ≡ true

sound : (n : ℕ) (kind : Holds) (low high : ℤ) (places : List (Option Data)) → places_error n kind low high places ≡ None → IsSound kind low high places
sound n kind low high places h = by (list_all is_some places) (list_all (has_kind kind) places) (list_all (has_range low high kind) places) refl refl h
  where
    by : (a b c : Bool) → list_all (has_kind kind) places ≡ b → list_all (has_range low high kind) places ≡ c → first_fault n a b c ≡ None → IsSound kind low high places
    by true true true e f k = record { kinds = e; ranges = f }
    by true true false e f k = cc
    by true false c e f k = cc
    by false b c e f k = cc

or_none : (a b : Option BookError) → option_or a b ≡ None → (a ≡ None) × (b ≡ None)
or_none None b h = (refl, h)
or_none (Some e) b h = absurd cc

first_error-take : (k : ℕ) (fs : List BookLine) (t : Members) → first_error fs t ≡ None → first_error (take k fs) t ≡ None
first_error-take zero fs t h = refl
first_error-take (suc k) [] t h = refl
first_error-take (suc k) (f ∷ fs) t h =
    let both = or_none (field_error f t) (first_error fs t) h in
    ap (λ (o : Option BookError). option_or o (first_error (take k fs) t)) both.0 ∙ first_error-take k fs t both.1

-- the first fields have none in either form
first_sound : (b : Bool) (t : Members) → first_error (fields_in_form b) t ≡ None → first_error first_fields t ≡ None
unfolding fields_in_form
first_sound true t h = first_error-take 55 table_fields t h
first_sound false t h = h

-- the ceiling of a text of form 2
pub ceiling_sound : (t : Members) → first_error table_fields t ≡ None → IsSound Integer (pos 1) (pos 9999) (member_at (codes "ceiling") (codes "percent") t ∷ [])
unfolding range_named
ceiling_sound t h = sound 56 Integer (pos 1) (pos 9999) (member_at (codes "ceiling") (codes "percent") t ∷ []) (no_error table_fields t h 55 _ refl)

-- the field at a place among the first fields
pub field_sound : (t : Members) → fields_error t ≡ None → (k : ℕ) (f : BookLine) → slice_get first_fields k ≡ Some f
    → IsSound f.kind (range_named f.name).low (limit (range_named f.name).high f.section t) (places_of f.kind f.section f.key t)
unfolding fields_error
field_sound t h k f at =
    sound f.number f.kind (range_named f.name).low (limit (range_named f.name).high f.section t) (places_of f.kind f.section f.key t) (no_error first_fields t (first_sound (is_form_2 t) t h) k f at)

-- of one place
pub one_range : (kind : Holds) (low high : ℤ) (place : Option Data) → list_all (has_range low high kind) (place ∷ []) ≡ true → has_range low high kind place ≡ true
one_range kind low high place h = (and_parts (has_range low high kind place) true h).0

-- a list of so many amounts
pub record IsAmounts (n : ℕ) (zs : List ℤ) : Type 0 where
  pub count : length zs ≡ n
  pub amounts : EachIsAmount zs

so_many : (n : ℕ) (place : Option Data) → has_kind (Integers n) place ≡ true → length (items_in place) ≡ n
so_many n None h = cc
so_many n (Some d) h =
    let array = and_parts (is_some (as_array d)) (length (listed (as_array d)) == n && list_all (λ item. is_some (as_integer item)) (listed (as_array d))) h in
    eqb-true (length (listed (as_array d))) n (and_parts (length (listed (as_array d)) == n) (list_all (λ item. is_some (as_integer item)) (listed (as_array d))) array.1).0

pub many_amounts : (n : ℕ) (place : Option Data) → IsSound (Integers n) (pos 0) (pos 99999999) (place ∷ []) → IsAmounts n (map (λ item. integer_in (Some item)) (items_in place))
many_amounts n place h =
    record {
      count = length-map (items_in place) (λ item. integer_in (Some item)) ∙ so_many n place (and_parts (has_kind (Integers n) place) true h.kinds).0;
      amounts = list_all-map (is_between (pos 0) (pos 99999999)) (λ item. integer_in (Some item)) (items_in place) ∙ one_range (Integers n) (pos 0) (pos 99999999) place h.ranges;
    }
