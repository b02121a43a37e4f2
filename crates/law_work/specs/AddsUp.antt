-- Each fund of Federal Work-Study adds up.
use Rattle.std.specs.Prelude.{◌≡◌, ℕ, ◌+◌, ◌*◌, ◌≤◌, Bool, ◌&&◌, ◌==◌, List, [], ◌∷◌, if◌then◌else◌}
use Rattle.law_work.specs.declared.filing.WorkFiling.{WorkFiling}
use Rattle.law_work.specs.declared.filing.WorkWhat.{WorkWhat}
use Rattle.law_work.specs.declared.filing.WorkWhat.TheVariants.{Award}
use Rattle.law_work.specs.Funds.{Place, awarded, earned, fund, in_force, in_fund, of_student, released, rest, unearned}

-- the students of the awards of a school's year, the newest first
abbrev pub held_by : ℕ → ℕ → ℕ → WorkWhat → List ℕ → List ℕ
held_by school year of (Award a) others = if (of == school) && (a.year == year) then a.student ∷ others else others
held_by school year of _ others = others

abbrev pub holders : List WorkFiling → ℕ → ℕ → List ℕ
holders [] school year = []
holders (f ∷ past) school year = held_by school year f.key.school f.what (holders past school year)

-- the sum of an amount of each student of a list
abbrev pub sum_over : List ℕ → (ℕ → ℕ) → ℕ
sum_over [] amount = 0
sum_over (student ∷ students) amount = amount student + sum_over students amount

-- The awards in force of a fund are within it; nobody earns past the award, which is at most 4,000 dollars; at no places more is
-- released than was awarded; and a fund is its rest, the unearned parts of its holders and their earnings, in cents, which are all
-- earnings there.
pub record AddsUp (past : List WorkFiling) : Type 0 where
  pub awards : (school year : ℕ) → in_force past (in_fund school year) ≤ fund past school year
  pub award : (school year student : ℕ) → in_force past (of_student school year student) ≤ 4000
  pub earnings : (school year student : ℕ) → earned past (of_student school year student) ≤ 100 * in_force past (of_student school year student)
  pub releases : (test : Place → Bool) → released past test ≤ awarded past test
  pub whole : (school year : ℕ) → 100 * fund past school year ≡ 100 * rest past school year + sum_over (holders past school year) (unearned past school year) + sum_over (holders past school year) (λ student. earned past (of_student school year student))
  pub earnings_there : (school year : ℕ) → sum_over (holders past school year) (λ student. earned past (of_student school year student)) ≡ earned past (in_fund school year)
