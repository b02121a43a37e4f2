-- The names of the rows that a filing may change, by what is filed.
use Rattle.std.proofs.Common.{◌≡◌, ℕ, ap, sym, ◌∙◌, inl, inr, Option, Some}
use Rattle.aid_filings.specs.declared.filing.Amount.{Amount}
use Rattle.aid_filings.specs.declared.filing.What.{What}
use Rattle.office_updates.specs.Changed.{place_changed, school_year_changed, student_changed, year_changed}
use Rattle.office_updates.proofs.PlacesAfter.{IsAmount}

-- the name of a row that is written is the one that may change
pub named_as : {K V : Type 0} (changed : Option K) (own : K) (r : K × V) → changed ≡ Some own → r.0 ≡ own →
    (name : K) (row : V) → Some r ≡ Some (name, row) → changed ≡ Some name
named_as {K} {V} changed own r is named name row written =
    let same : r ≡ (name, row) = cc in
    is ∙ ap (λ (k : K). Some k) (sym named ∙ ap (λ (p : K × V). p.0) same)

-- the names of an amount's rows
pub amount_place : (school : ℕ) (what : What) (a : Amount) → IsAmount what a →
    place_changed school what ≡ Some (record { student = a.student; school = school; year = a.year; term = a.term })
amount_place school what a (inl is) = ap (place_changed school) is
amount_place school what a (inr (inl is)) = ap (place_changed school) is
amount_place school what a (inr (inr is)) = ap (place_changed school) is

pub amount_year : (what : What) (a : Amount) → IsAmount what a → year_changed what ≡ Some (record { student = a.student; year = a.year })
amount_year what a (inl is) = ap year_changed is
amount_year what a (inr (inl is)) = ap year_changed is
amount_year what a (inr (inr is)) = ap year_changed is

pub amount_school_year : (school : ℕ) (what : What) (a : Amount) → IsAmount what a →
    school_year_changed school what ≡ Some (record { student = a.student; school = school; year = a.year })
amount_school_year school what a (inl is) = ap (school_year_changed school) is
amount_school_year school what a (inr (inl is)) = ap (school_year_changed school) is
amount_school_year school what a (inr (inr is)) = ap (school_year_changed school) is

pub amount_student : (what : What) (a : Amount) → IsAmount what a → student_changed what ≡ Some a.student
amount_student what a (inl is) = ap student_changed is
amount_student what a (inr (inl is)) = ap student_changed is
amount_student what a (inr (inr is)) = ap student_changed is
