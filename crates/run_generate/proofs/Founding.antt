-- The rows of a year by their places.
use Rattle.std.proofs.Common.{◌≡◌, ℕ, zero, suc, ◌+◌, ◌-◌, ◌*◌, ◌/◌, ◌%◌, ◌<◌, ◌≤◌, ◌==◌, Bool, true, false, List, [], ◌∷◌, ◌++◌, drop, if◌then◌else◌, refl, sym, ◌∙◌, ap, add-one, arith, lit≤}
use Rattle.std.proofs.lemmas.List.{drop_all}
use Rattle.law_terms.specs.CivilDays.{days_of_months, days_of_years, is_leap, month_days, year_days}
use Rattle.run_generate.specs.Drawn.{draws_behind, later}
use Rattle.run_generate.specs.Left.{students_left}
use Rattle.run_generate.specs.Rows.{YearRow, apply_row, autumn, autumn_row, founding_rows, school_row, spring_row, student_rows, students_rows, withdraw_row, withdraw_rows}
use Rattle.run_generate.specs.declared.draws.Students.{Students}
use Rattle.run_generate.specs.declared.draws.Draws.{Draws}

-- the rows of the schools and their terms by their places
pub at_school : (y place : ℕ) → place < 4 → drop place (founding_rows y) ≡ school_row place ∷ drop (place + 1) (founding_rows y)
at_school y zero h = refl
at_school y (suc zero) h = refl
at_school y (suc (suc zero)) h = refl
at_school y (suc (suc (suc zero))) h = refl
at_school y (suc (suc (suc (suc n)))) h = absurd (let bad : ⊥ = omega arith in bad)

pub at_autumn : (y place : ℕ) → 4 ≤ place → place < 12 → place % 2 ≡ 0 → drop place (founding_rows y) ≡ autumn_row y ((place - 4) / 2) ∷ drop (place + 1) (founding_rows y)
at_autumn y zero from to is = absurd (let bad : ⊥ = omega arith in bad)
at_autumn y (suc zero) from to is = absurd (let bad : ⊥ = omega arith in bad)
at_autumn y (suc (suc zero)) from to is = absurd (let bad : ⊥ = omega arith in bad)
at_autumn y (suc (suc (suc zero))) from to is = absurd (let bad : ⊥ = omega arith in bad)
at_autumn y (suc (suc (suc (suc zero)))) from to is = refl
at_autumn y (suc (suc (suc (suc (suc zero))))) from to is = absurd (let bad : ⊥ = cc in bad)
at_autumn y (suc (suc (suc (suc (suc (suc zero)))))) from to is = refl
at_autumn y (suc (suc (suc (suc (suc (suc (suc zero))))))) from to is = absurd (let bad : ⊥ = cc in bad)
at_autumn y (suc (suc (suc (suc (suc (suc (suc (suc zero)))))))) from to is = refl
at_autumn y (suc (suc (suc (suc (suc (suc (suc (suc (suc zero))))))))) from to is = absurd (let bad : ⊥ = cc in bad)
at_autumn y (suc (suc (suc (suc (suc (suc (suc (suc (suc (suc zero)))))))))) from to is = refl
at_autumn y (suc (suc (suc (suc (suc (suc (suc (suc (suc (suc (suc zero))))))))))) from to is = absurd (let bad : ⊥ = cc in bad)
at_autumn y (suc (suc (suc (suc (suc (suc (suc (suc (suc (suc (suc (suc n)))))))))))) from to is = absurd (let bad : ⊥ = omega arith in bad)

pub at_spring : (y place : ℕ) → 4 ≤ place → place < 12 → place % 2 ≡ 1 → drop place (founding_rows y) ≡ spring_row y ((place - 4) / 2) ∷ drop (place + 1) (founding_rows y)
at_spring y zero from to is = absurd (let bad : ⊥ = omega arith in bad)
at_spring y (suc zero) from to is = absurd (let bad : ⊥ = omega arith in bad)
at_spring y (suc (suc zero)) from to is = absurd (let bad : ⊥ = omega arith in bad)
at_spring y (suc (suc (suc zero))) from to is = absurd (let bad : ⊥ = omega arith in bad)
at_spring y (suc (suc (suc (suc zero)))) from to is = absurd (let bad : ⊥ = cc in bad)
at_spring y (suc (suc (suc (suc (suc zero))))) from to is = refl
at_spring y (suc (suc (suc (suc (suc (suc zero)))))) from to is = absurd (let bad : ⊥ = cc in bad)
at_spring y (suc (suc (suc (suc (suc (suc (suc zero))))))) from to is = refl
at_spring y (suc (suc (suc (suc (suc (suc (suc (suc zero)))))))) from to is = absurd (let bad : ⊥ = cc in bad)
at_spring y (suc (suc (suc (suc (suc (suc (suc (suc (suc zero))))))))) from to is = refl
at_spring y (suc (suc (suc (suc (suc (suc (suc (suc (suc (suc zero)))))))))) from to is = absurd (let bad : ⊥ = cc in bad)
at_spring y (suc (suc (suc (suc (suc (suc (suc (suc (suc (suc (suc zero))))))))))) from to is = refl
at_spring y (suc (suc (suc (suc (suc (suc (suc (suc (suc (suc (suc (suc n)))))))))))) from to is = absurd (let bad : ⊥ = omega arith in bad)

-- the days of years and of months, at most
year_short : (y : ℕ) → year_days y ≤ 366
year_short y = go (is_leap y)
  where
    go : (b : Bool) → (if b then 366 else 365) ≤ 366
    go true = lit≤ tt
    go false = lit≤ tt

years_short : (n : ℕ) → days_of_years n ≤ 366 * n
unfolding days_of_years
years_short zero = lit≤ tt
years_short (suc n) = let least = years_short n in let last = year_short (1900 + n) in omega (arith, least, last)

february_short : (y : ℕ) → month_days y 2 ≤ 31
february_short y = go (is_leap y)
  where
    go : (b : Bool) → (if b then 29 else 28) ≤ 31
    go true = lit≤ tt
    go false = lit≤ tt

-- term 1 of a year in the range begins long before the last day that there is
pub autumn_early : (y : ℕ) → y ≤ 2099 → autumn y + 106 ≤ 2958463
unfolding days_of_months
autumn_early y h = let years = years_short (y - 1900) in let february = february_short y in omega (arith, years, february)

-- behind the fifth row of a student is none
none_behind_last : (row : YearRow) (b : Bool) (m : ℕ) → drop (suc m) (if b then row ∷ [] else []) ≡ []
none_behind_last row true zero = refl
none_behind_last row true (suc m) = refl
none_behind_last row false m = refl

pub none_behind : (y i : ℕ) (d : Draws) (n : ℕ) → 5 ≤ n → drop n (student_rows y i d) ≡ []
none_behind y i d zero h = absurd (let bad : ⊥ = omega arith in bad)
none_behind y i d (suc zero) h = absurd (let bad : ⊥ = omega arith in bad)
none_behind y i d (suc (suc zero)) h = absurd (let bad : ⊥ = omega arith in bad)
none_behind y i d (suc (suc (suc zero))) h = absurd (let bad : ⊥ = omega arith in bad)
none_behind y i d (suc (suc (suc (suc zero)))) h = absurd (let bad : ⊥ = omega arith in bad)
none_behind y i d (suc (suc (suc (suc (suc m))))) h = none_behind_last (withdraw_row y i d) (d.leave % 16 == 0) m

-- behind the schools and terms is nothing of them
none_founding : (y founded : ℕ) → 12 ≤ founded → drop founded (founding_rows y) ≡ []
none_founding y founded all = drop_all founded (founding_rows y) all

-- the rows of the next student, and of those behind
next_drawn : (y : ℕ) (old new : Students) (draws : Draws) → draws ≡ draws_behind old.seed → new.seed ≡ later old.seed → new.last ≡ old.last + 1 → old.left ≡ new.left + 1
    → students_left y old ≡ student_rows y new.last draws ++ students_left y new
unfolding students_rows
next_drawn y old new draws is seed last left =
    ap (λ (n : ℕ). students_rows y n (old.last + 1) old.seed) (left ∙ add-one new.left)
    ∙ (λ k. student_rows y (sym last k) (sym is k) ++ students_rows y new.left (sym last k + 1) (sym seed k))

-- where a student is drawn
pub begun : (y founded : ℕ) (old new : Students) (draws : Draws) → 12 ≤ founded → draws ≡ draws_behind old.seed → new.seed ≡ later old.seed → new.last ≡ old.last + 1 → old.left ≡ new.left + 1
    → drop founded (founding_rows y) ++ students_left y old ≡ apply_row y new.last draws ∷ (drop founded (founding_rows y) ++ (drop 1 (student_rows y new.last draws) ++ students_left y new))
begun y founded old new draws all is seed last left =
    let none = none_founding y founded all in
    ap (λ (l : List YearRow). drop founded (founding_rows y) ++ l) (next_drawn y old new draws is seed last left)
    ∙ ap (λ (d : List YearRow). d ++ (student_rows y new.last draws ++ students_left y new)) none
    ∙ ap (λ (d : List YearRow). apply_row y new.last draws ∷ (d ++ (drop 1 (student_rows y new.last draws) ++ students_left y new))) (sym none)

-- behind the last student
pub ended : (y founded : ℕ) (students : Students) → 12 ≤ founded → students.left ≡ 0 → drop founded (founding_rows y) ++ students_left y students ≡ []
unfolding students_rows
ended y founded students all none =
    ap (λ (d : List YearRow). d ++ students_left y students) (none_founding y founded all)
    ∙ ap (λ (n : ℕ). students_rows y n (students.last + 1) students.seed) none
