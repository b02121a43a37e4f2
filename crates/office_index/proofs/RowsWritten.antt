-- What rows tell once one of them is written.
use Rattle.std.proofs.Common.{◌≡◌, ℕ, zero, suc, ◌+◌, add-one, refl, sym, ap, ◌∙◌, cond, Bool, true, false, ◌&&◌, List, ◌∷◌, length, Option, Some, None}
use Rattle.std.specs.Prelude.{◌==◌}
use Rattle.std.specs.Cmp.{both_tied, unsigned_tied}
use Rattle.std.specs.List.{slice_get}
use Rattle.std.specs.Ordering.{is_eq}
use Rattle.std.specs.declared.cmp.Ordering.{Ordering}
use Rattle.std.proofs.lemmas.Cmp.{nat_eq_equiv}
use Rattle.sorted_rows.specs.Places.{IsHere, IsWritten, value_at}
use Rattle.sorted_rows.proofs.Placed.{row_of}
use Rattle.aid_types.specs.declared.number.Key.{Key}
use Rattle.aid_types.proofs.Same.{tells_key}
use Rattle.aid_filings.specs.declared.filing.Filing.{Filing}
use Rattle.office_history.specs.Past.{first_of_two, key_at, same_key}
use Rattle.office_history.specs.Rows.{place_row, school_year_row, year_row}
use Rattle.office_history.specs.declared.rows.PlaceRow.{PlaceRow}
use Rattle.office_history.specs.declared.rows.SchoolYearRow.{SchoolYearRow}
use Rattle.office_history.specs.declared.rows.YearRow.{YearRow}
use Rattle.office_updates.specs.After.{IsPlaceAfter, IsSchoolYearAfter, IsYearAfter, after}
use Rattle.office_history.specs.Names.{place_cmp, school_year_cmp, year_cmp}
use Rattle.office_index.specs.Index.{AreKeys, AreSchoolYears, AreYears, filing_cmp, filing_name, position_of, position_or, school_year_or, written_or, year_or}
use Rattle.office_updates.specs.Placed.{ArePlaces, place_or}
use Rattle.office_updates.proofs.RowNames.{at_place, place-same}
use Rattle.office_index.specs.declared.entries.FilingNumber.{FilingNumber}
use Rattle.office_history.specs.declared.names.StudentPlace.{StudentPlace}
use Rattle.office_history.specs.declared.names.StudentSchoolYear.{StudentSchoolYear}
use Rattle.office_history.specs.declared.names.StudentYear.{StudentYear}

-- what is told of a name once a row is written
told_written : {K V : Type 0} (cmp : K → K → Ordering) (tell : Option V → V) → ((v : V) → tell (Some v) ≡ v) → (w : Option (K × V)) (name : K) (o : Option V) →
    tell (written_or cmp w name o) ≡ after cmp w name (tell o)
told_written cmp tell some None name o = refl
told_written {K} {V} cmp tell some (Some row) name o = either (is_eq (cmp row.0 name))
  where
    either : (b : Bool) → tell (cond b (Some row.1) o) ≡ cond b row.1 (tell o)
    either true = some row.1
    either false = refl

told_after : {K V : Type 0} (cmp : K → K → Ordering) (tell : Option V → V) → ((v : V) → tell (Some v) ≡ v) → (w : Option (K × V)) (name : K) (old new : Option V)
    (before now : V) → new ≡ written_or cmp w name old → tell old ≡ before → now ≡ after cmp w name before → tell new ≡ now
told_after cmp tell some w name old new before now written told changed =
    ap tell written ∙ told_written cmp tell some w name old ∙ ap (after cmp w name) told ∙ sym changed

-- the rows of places, of years and of years at schools tell what is on file with a filing more
pub places_after : (past : List Filing) (f : Filing) (w : Option (StudentPlace × PlaceRow)) (old new : List (StudentPlace × PlaceRow)) →
    ((name : StudentPlace) → value_at place_cmp name new ≡ written_or place_cmp w name (value_at place_cmp name old)) →
    ArePlaces past old → IsPlaceAfter past f w → ArePlaces (f ∷ past) new
places_after past f w old new written told changed school student year term =
    let name : StudentPlace = record { student = student; school = school; year = year; term = term } in
    told_after place_cmp place_or (λ v. refl) w name (value_at place_cmp name old) (value_at place_cmp name new) (place_row past school student year term)
    (place_row (f ∷ past) school student year term) (written name) (told school student year term) (changed school student year term)

pub years_after : (past : List Filing) (f : Filing) (w : Option (StudentYear × YearRow)) (old new : List (StudentYear × YearRow)) →
    ((name : StudentYear) → value_at year_cmp name new ≡ written_or year_cmp w name (value_at year_cmp name old)) →
    AreYears past old → IsYearAfter past f w → AreYears (f ∷ past) new
years_after past f w old new written told changed student year =
    let name : StudentYear = record { student = student; year = year } in
    told_after year_cmp year_or (λ v. refl) w name (value_at year_cmp name old) (value_at year_cmp name new) (year_row past student year)
    (year_row (f ∷ past) student year) (written name) (told student year) (changed student year)

pub school_years_after : (past : List Filing) (f : Filing) (w : Option (StudentSchoolYear × SchoolYearRow)) (old new : List (StudentSchoolYear × SchoolYearRow)) →
    ((name : StudentSchoolYear) → value_at school_year_cmp name new ≡ written_or school_year_cmp w name (value_at school_year_cmp name old)) →
    AreSchoolYears past old → IsSchoolYearAfter past f w → AreSchoolYears (f ∷ past) new
school_years_after past f w old new written told changed school student year =
    let name : StudentSchoolYear = record { student = student; school = school; year = year } in
    told_after school_year_cmp school_year_or (λ v. refl) w name (value_at school_year_cmp name old) (value_at school_year_cmp name new)
    (school_year_row past school student year) (school_year_row (f ∷ past) school student year) (written name) (told school student year)
    (changed school student year)

-- the row of a position tells it
pub position_is : (n : ℕ) → position_or (position_of n) ≡ n
position_is zero = refl
position_is (suc n) = refl

row_of_next : (n : ℕ) → Some (n + 1) ≡ position_of (n + 1)
row_of_next n = rw add-one refl

-- the first position stays, where there is one
first_written : (b : Bool) (before last : ℕ) → (b ≡ true → before ≡ 0) → cond b (Some (last + 1)) (position_of before) ≡ position_of (first_of_two b before (last + 1))
first_written false before last none = refl
first_written true before last none = row_of_next last ∙ sym (ap (λ (n : ℕ). position_of (first_of_two true n (last + 1))) (none refl))

-- the order of filings' names tells where two keys are the same
key-same : (a b : Key) → is_eq (filing_cmp (filing_name a) (filing_name b)) ≡ same_key b a
key-same a b =
    sym (both_tied _ _ _ _ (sym (unsigned_tied a.number b.number)) (sym (unsigned_tied a.school b.school)))
    ∙ (λ i. nat_eq_equiv.symm a.number b.number i && nat_eq_equiv.symm a.school b.school i)
    ∙ turned (b.number == a.number) (b.school == a.school)
  where
    turned : (m n : Bool) → (m && n) ≡ (n && m)
    turned true true = refl
    turned true false = refl
    turned false true = refl
    turned false false = refl

-- the position of a new key's filing is written under its name
pub keys_after : (past : List Filing) (f : Filing) (position : ℕ) (old new : List (FilingNumber × ℕ)) → position ≡ length past + 1 → key_at f.key past ≡ 0 →
    IsWritten filing_cmp (filing_name f.key) position old new → AreKeys past old → AreKeys (f ∷ past) new
keys_after past f position old new here none written told key =
    written (filing_name key)
    ∙ (λ i. cond (key-same f.key key i) (Some (here i)) (told key i))
    ∙ first_written (same_key key f.key) (key_at key past) (length past) (λ e. ap (λ (k : Key). key_at k past) (tells_key.same key f.key e) ∙ none)

-- the row at a key's place has the key
same_place : (own asked : StudentPlace) → is_eq (place_cmp own asked) ≡ true → own ≡ asked
same_place own asked h =
    at_place (λ school student year term. record { student = student; school = school; year = year; term = term }) own asked (sym (place-same own asked) ∙ h)

pub placed_there : (key : StudentPlace) (rows : List (StudentPlace × PlaceRow)) (i : ℕ) → IsHere place_cmp key rows i →
    (there : PlaceRow) × (slice_get rows i ≡ Some (key, there))
placed_there key rows i here =
    let row = row_of rows i here.in_range in
    (row.0.1, row.1 ∙ ap (λ (name : StudentPlace). Some (name, row.0.1)) (sym (same_place key row.0.0 (ap is_eq (here.same row.0 row.1)))))
