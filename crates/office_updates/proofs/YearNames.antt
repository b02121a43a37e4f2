-- A row that is written, looked up by the name of another.
use Rattle.std.proofs.Common.{◌≡◌, ℕ, Bool, true, false, ◌&&◌, cond, refl, sym, ap, subst, ◌∙◌, arith, ◌∷◌, List, Some, eqb-true}
use Rattle.std.specs.Prelude.{◌==◌}
use Rattle.std.specs.Ordering.{nat_cmp, ordering_then, is_eq}
use Rattle.std.specs.declared.cmp.Ordering.{Ordering}
use Rattle.std.specs.declared.cmp.Ordering.TheVariants.{Less, Equal, Greater}
use Rattle.std.proofs.lemmas.Bool.{and_parts}
use Rattle.std.proofs.lemmas.Bool.Decides.{nat_tests}
use Rattle.aid_filings.specs.declared.filing.Filing.{Filing}
use Rattle.office_history.specs.Rows.{student_row, year_row}
use Rattle.office_history.specs.declared.rows.StudentRow.{StudentRow}
use Rattle.office_history.specs.declared.rows.YearRow.{YearRow}
use Rattle.office_history.specs.Names.{year_cmp}
use Rattle.office_updates.specs.After.{IsStudentAfter, IsYearAfter}
use Rattle.office_updates.specs.Moved.{ChangesYear}
use Rattle.office_history.specs.declared.names.StudentYear.{StudentYear}

number_test : (a b : ℕ) → is_eq (nat_cmp a b) ≡ (a == b)
number_test a b = grind (arith, nat_tests)

then_test : (x y : Ordering) → is_eq (ordering_then x y) ≡ (is_eq x && is_eq y)
then_test Less y = refl
then_test Equal y = refl
then_test Greater y = refl

year_test : (k l : StudentYear) → is_eq (year_cmp k l) ≡ (k.student == l.student && k.year == l.year)
year_test k l =
    then_test (nat_cmp k.student l.student) (nat_cmp k.year l.year)
    ∙ ap (λ (b : Bool). b && is_eq (nat_cmp k.year l.year)) (number_test k.student l.student)
    ∙ ap (λ (b : Bool). k.student == l.student && b) (number_test k.year l.year)

-- the one row that changes is written
pub year_written : (past : List Filing) (f : Filing) (student year : ℕ) (name : StudentYear) (row : YearRow) → name ≡ record { student = student; year = year } →
    row ≡ year_row (f ∷ past) student year → ChangesYear past f student year → IsYearAfter past f (Some (name, row))
year_written past f student year name row named is others s y =
    go (student == s && year == y) refl
    ∙ ap (λ (b : Bool). cond b row (year_row past s y)) (sym (year_test (record { student = student; year = year }) (record { student = s; year = y })))
    ∙ ap (λ (n : StudentYear). cond (is_eq (year_cmp n (record { student = s; year = y }))) row (year_row past s y)) (sym named)
  where
    go : (b : Bool) → (student == s && year == y) ≡ b → year_row (f ∷ past) s y ≡ cond b row (year_row past s y)
    go false e = others s y e
    go true e =
        let p = and_parts (student == s) (year == y) e in
        subst (λ (n : ℕ). year_row (f ∷ past) s n ≡ row) (eqb-true year y p.1)
        (subst (λ (n : ℕ). year_row (f ∷ past) n year ≡ row) (eqb-true student s p.0) (sym is))

pub student_written : (past : List Filing) (f : Filing) (student : ℕ) (row : StudentRow) → row ≡ student_row (f ∷ past) student →
    ((s : ℕ) → (student == s) ≡ false → student_row (f ∷ past) s ≡ student_row past s) → (n : ℕ) → n ≡ student → IsStudentAfter past f (Some (n, row))
student_written past f student row is others n named s =
    go (student == s) refl ∙ ap (λ (b : Bool). cond b row (student_row past s)) (sym (number_test student s))
    ∙ ap (λ (m : ℕ). cond (is_eq (nat_cmp m s)) row (student_row past s)) (sym named)
  where
    go : (b : Bool) → (student == s) ≡ b → student_row (f ∷ past) s ≡ cond b row (student_row past s)
    go false e = others s e
    go true e = subst (λ (n : ℕ). student_row (f ∷ past) n ≡ row) (eqb-true student s e) (sym is)
