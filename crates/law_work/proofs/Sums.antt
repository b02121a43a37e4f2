-- Sums over students, and amounts of which those of the students add up to that of their fund.
use Rattle.std.proofs.Common.{◌≡◌, ℕ, ◌+◌, ◌*◌, refl, sym, ◌∙◌, arith, Bool, true, false, ◌&&◌, List, [], ◌∷◌, eq-eqb}
use Rattle.std.specs.Prelude.{◌==◌}
use Rattle.law_work.specs.AddsUp.{sum_over}
use Rattle.law_work.specs.Funds.{Place, if_passes, in_fund, of_student}

-- how many times a student stands in a list
abbrev pub times : ℕ → List ℕ → ℕ
times student [] = 0
times student (s ∷ students) = if_passes (student == s) 1 + times student students

-- ---- sums
-- of amounts that are the same
pub sum_same : (xs : List ℕ) (g h : ℕ → ℕ) → ((x : ℕ) → g x ≡ h x) → sum_over xs g ≡ sum_over xs h
sum_same [] g h e = refl
sum_same (x ∷ xs) g h e = omega (arith, e x, sum_same xs g h e)

-- of two amounts together
pub sum_added : (xs : List ℕ) (g h : ℕ → ℕ) → sum_over xs (λ x. g x + h x) ≡ sum_over xs g + sum_over xs h
sum_added [] g h = refl
sum_added (x ∷ xs) g h = omega (arith, sum_added xs g h)

-- of amounts that balance
pub sum_balances : (xs : List ℕ) (u e r a : ℕ → ℕ) → ((x : ℕ) → (u x + e x) + 100 * r x ≡ 100 * a x) →
    (sum_over xs u + sum_over xs e) + 100 * sum_over xs r ≡ 100 * sum_over xs a
sum_balances [] u e r a h = refl
sum_balances (x ∷ xs) u e r a h = omega (arith, h x, sum_balances xs u e r a h)

-- of an amount at one place: once for each time that its student stands there
at_one : (b c : Bool) (n k m : ℕ) → m ≡ if_passes c (k * n) → if_passes (b && c) n + m ≡ if_passes c ((if_passes b 1 + k) * n)
at_one true true n k m h = omega arith
at_one true false n k m h = omega arith
at_one false true n k m h = omega arith
at_one false false n k m h = omega arith

pub sum_at_place : (xs : List ℕ) (school year : ℕ) (p : Place) (n : ℕ) →
    sum_over xs (λ x. if_passes (of_student school year x p) n) ≡ if_passes (in_fund school year p) (times p.student xs * n)
sum_at_place [] school year p n = none (in_fund school year p)
  where
    none : (b : Bool) → 0 ≡ if_passes b (0 * n)
    none true = omega arith
    none false = refl
sum_at_place (x ∷ xs) school year p n =
    at_one (p.student == x) (in_fund school year p) n (times p.student xs) (sum_over xs (λ x. if_passes (of_student school year x p) n))
    (sum_at_place xs school year p n)

-- ---- amounts that add up
-- an amount at the places that pass: those of the students add up to that of the fund
abbrev pub AddsTo : ((Place → Bool) → ℕ) → List ℕ → ℕ → ℕ → Type 0
AddsTo amount students school year = sum_over students (λ student. amount (of_student school year student)) ≡ amount (in_fund school year)

no_more : (n : ℕ) → 0 + n ≡ n
no_more n = omega arith

-- with nothing more
pub adds_none : (amount : (Place → Bool) → ℕ) (students : List ℕ) (school year : ℕ) → AddsTo amount students school year →
    AddsTo (λ test. 0 + amount test) students school year
adds_none amount students school year h =
    sum_same students (λ x. 0 + amount (of_student school year x)) (λ x. amount (of_student school year x)) (λ x. no_more (amount (of_student school year x)))
    ∙ h ∙ sym (no_more (amount (in_fund school year)))

-- with more at the place of a student who stands there once
once_passes : (b : Bool) (k n : ℕ) → (b ≡ true → k ≡ 1) → if_passes b (k * n) ≡ if_passes b n
once_passes true k n h = let e : k ≡ 1 = h refl in rw e (omega arith)
once_passes false k n h = refl

sum_with : (sum ones old now had here : ℕ) → sum ≡ ones + old → ones ≡ now → now ≡ here → old ≡ had → sum ≡ here + had
sum_with sum ones old now had here a b c d = omega arith

pub adds_one : (amount : (Place → Bool) → ℕ) (students : List ℕ) (school year : ℕ) (p : Place) (n : ℕ) →
    (in_fund school year p ≡ true → times p.student students ≡ 1) → AddsTo amount students school year →
    AddsTo (λ test. if_passes (test p) n + amount test) students school year
adds_one amount students school year p n once h =
    sum_with (sum_over students (λ x. if_passes (of_student school year x p) n + amount (of_student school year x)))
    (sum_over students (λ x. if_passes (of_student school year x p) n)) (sum_over students (λ x. amount (of_student school year x)))
    (if_passes (in_fund school year p) (times p.student students * n)) (amount (in_fund school year)) (if_passes (in_fund school year p) n)
    (sum_added students (λ x. if_passes (of_student school year x p) n) (λ x. amount (of_student school year x)))
    (sum_at_place students school year p n) (once_passes (in_fund school year p) (times p.student students) n once) h

-- with a student more, of whom there was nothing
pub adds_student : (amount : (Place → Bool) → ℕ) (students : List ℕ) (school year student : ℕ) → amount (of_student school year student) ≡ 0 →
    AddsTo amount students school year → AddsTo (λ test. 0 + amount test) (student ∷ students) school year
adds_student amount students school year student z h =
    let rest = adds_none amount students school year h in omega (arith, z, rest)

-- and whose amount there is
first_with : (mine own sum ones old had here : ℕ) → sum ≡ ones + old → mine ≡ here → ones ≡ 0 → old ≡ had → own ≡ 0 → (mine + own) + sum ≡ here + had
first_with mine own sum ones old had here a b c d e = omega arith

passes_no_times : (b : Bool) (k n : ℕ) → k ≡ 0 → if_passes b (k * n) ≡ 0
passes_no_times true k n e = rw e (omega arith)
passes_no_times false k n e = refl

own_passes : (b c : Bool) (n : ℕ) → b ≡ true → if_passes (b && c) n ≡ if_passes c n
own_passes true c n e = refl
own_passes false c n e = cc

pub adds_first : (amount : (Place → Bool) → ℕ) (students : List ℕ) (school year : ℕ) (p : Place) (n : ℕ) → amount (of_student school year p.student) ≡ 0 →
    times p.student students ≡ 0 → AddsTo amount students school year →
    AddsTo (λ test. if_passes (test p) n + amount test) (p.student ∷ students) school year
adds_first amount students school year p n z none h =
    first_with (if_passes (of_student school year p.student p) n) (amount (of_student school year p.student))
    (sum_over students (λ x. if_passes (of_student school year x p) n + amount (of_student school year x)))
    (sum_over students (λ x. if_passes (of_student school year x p) n)) (sum_over students (λ x. amount (of_student school year x)))
    (amount (in_fund school year)) (if_passes (in_fund school year p) n)
    (sum_added students (λ x. if_passes (of_student school year x p) n) (λ x. amount (of_student school year x)))
    (own_passes (p.student == p.student) (in_fund school year p) n (eq-eqb p.student p.student refl))
    (sum_at_place students school year p n ∙ passes_no_times (in_fund school year p) (times p.student students) n none) h z
