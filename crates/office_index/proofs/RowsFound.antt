-- The rows that a filing may change, as the index finds them.
use Rattle.std.proofs.Common.{◌≡◌, ℕ, refl, sym, ap, subst, ◌∙◌, List, Option, Some, None}
use Rattle.std.specs.Ordering.{nat_cmp}
use Rattle.std.proofs.lemmas.Option.{none-some}
use Rattle.sorted_rows.specs.Places.{value_at}
use Rattle.aid_types.specs.declared.number.Key.{Key}
use Rattle.aid_filings.specs.declared.filing.Filing.{Filing}
use Rattle.aid_filings.specs.declared.filing.What.{What}
use Rattle.aid_filings.specs.declared.filing.What.TheVariants.{Book as BookFiled, School, Calendar, Prior, Apply, Enroll, Originate, Pay, Withdraw, Repay, Adjust, Cost, Sent, Amend}
use Rattle.office_history.specs.Names.{place_cmp, school_year_cmp, year_cmp}
use Rattle.office_history.specs.Own.{IsOwnAccount, own_place}
use Rattle.office_history.specs.Accounts.{IsAccount}
use Rattle.office_history.specs.Rows.{place_row}
use Rattle.office_history.specs.declared.names.StudentPlace.{StudentPlace}
use Rattle.office_history.specs.declared.names.StudentSchoolYear.{StudentSchoolYear}
use Rattle.office_history.specs.declared.names.StudentYear.{StudentYear}
use Rattle.office_history.specs.declared.place.Place.{Place}
use Rattle.office_history.specs.declared.rows.PlaceRow.{PlaceRow}
use Rattle.office_history.specs.declared.rows.SchoolYearRow.{SchoolYearRow}
use Rattle.office_history.specs.declared.rows.YearRow.{YearRow}
use Rattle.office_updates.specs.Placed.{ArePlaces, place_or}
use Rattle.office_updates.specs.Changed.{IsPlaceBefore, IsSchoolYearBefore, IsYearBefore, place_changed, school_year_changed, student_changed, year_changed}
use Rattle.office_index.specs.Index.{AreSchoolYears, AreStudents, AreYears, school_year_or, student_entry, student_or, year_or}
use Rattle.office_index.specs.declared.entries.StudentEntry.{StudentEntry}

-- a place, a year, a year at a school and a student that are found are told as they are on file
pub place_before : (past : List Filing) (f : Filing) (rows : List (StudentPlace × PlaceRow)) (name : Option StudentPlace) (row : Option PlaceRow) (told : PlaceRow) →
    ArePlaces past rows → name ≡ place_changed f.key.school f.what →
    ((key : StudentPlace) → name ≡ Some key → row ≡ value_at place_cmp key rows) → told ≡ place_or row → IsPlaceBefore past f told
place_before past f rows name row told are named found tells key changed =
    tells ∙ ap place_or (found key (named ∙ changed)) ∙ are key.school key.student key.year key.term

pub year_before : (past : List Filing) (f : Filing) (rows : List (StudentYear × YearRow)) (name : Option StudentYear) (row : Option YearRow) (told : YearRow) →
    AreYears past rows → name ≡ year_changed f.what →
    ((key : StudentYear) → name ≡ Some key → row ≡ value_at year_cmp key rows) → told ≡ year_or row → IsYearBefore past f told
year_before past f rows name row told are named found tells key changed =
    tells ∙ ap year_or (found key (named ∙ changed)) ∙ are key.student key.year

pub school_year_before : (past : List Filing) (f : Filing) (rows : List (StudentSchoolYear × SchoolYearRow)) (name : Option StudentSchoolYear) (row : Option SchoolYearRow) (told : SchoolYearRow) →
    AreSchoolYears past rows → name ≡ school_year_changed f.key.school f.what →
    ((key : StudentSchoolYear) → name ≡ Some key → row ≡ value_at school_year_cmp key rows) → told ≡ school_year_or row → IsSchoolYearBefore past f told
school_year_before past f rows name row told are named found tells key changed =
    tells ∙ ap school_year_or (found key (named ∙ changed)) ∙ are key.school key.student key.year

pub student_before : (past : List Filing) (f : Filing) (rows : List (ℕ × StudentEntry)) (name : Option ℕ) (row : Option StudentEntry) (told : StudentEntry) →
    AreStudents past rows → name ≡ student_changed f.what →
    ((key : ℕ) → name ≡ Some key → row ≡ value_at nat_cmp key rows) → told ≡ student_or row →
    (student : ℕ) → student_changed f.what ≡ Some student → told ≡ student_entry past student
student_before past f rows name row told are named found tells student changed =
    tells ∙ ap student_or (found student (named ∙ changed)) ∙ are student

-- the term in which a filing moves money is the place that it may change
abbrev named_in : Option Place → Option StudentPlace
named_in None = None
named_in (Some p) = Some (record { student = p.student; school = p.school; year = p.year; term = p.term })

own_is_changed : (key : Key) (what : What) (p : Place) → own_place key what ≡ Some p → place_changed key.school what ≡ named_in (Some p)
own_is_changed key (Pay a) p e = ap named_in e
own_is_changed key (Withdraw w) p e = ap named_in e
own_is_changed key (Repay a) p e = ap named_in e
own_is_changed key (Adjust a) p e = ap named_in e
own_is_changed key (BookFiled b) p e = absurd (none-some p e)
own_is_changed key (School s) p e = absurd (none-some p e)
own_is_changed key (Calendar s) p e = absurd (none-some p e)
own_is_changed key (Prior s) p e = absurd (none-some p e)
own_is_changed key (Apply s) p e = absurd (none-some p e)
own_is_changed key (Enroll s) p e = absurd (none-some p e)
own_is_changed key (Originate s) p e = absurd (none-some p e)
own_is_changed key (Cost s) p e = absurd (none-some p e)
own_is_changed key (Sent s) p e = ap named_in e
own_is_changed key (Amend s) p e = absurd (none-some p e)

pub own_before : (past : List Filing) (f : Filing) (row : PlaceRow) → IsPlaceBefore past f row → (p : Place) → own_place f.key f.what ≡ Some p →
    row ≡ place_row past p.school p.student p.year p.term
own_before past f row before p is = before _ (own_is_changed f.key f.what p is)

pub own_account : (past : List Filing) (f : Filing) (row : PlaceRow) → IsPlaceBefore past f row → IsOwnAccount past (own_place f.key f.what) row.account
own_account past f row before = go (own_place f.key f.what) (own_before past f row before)
  where
    go : (o : Option Place) → ((p : Place) → o ≡ Some p → row ≡ place_row past p.school p.student p.year p.term) → IsOwnAccount past o row.account
    go None is = tt
    go (Some p) is =
        subst (λ (r : PlaceRow). IsAccount past p.school p.student p.year p.term r.account) (sym (is p refl))
        (record { paid = refl; taken = refl; owed = refl; repaid = refl; returned = refl; sent = refl; after = refl; after_all = refl; post = refl })
