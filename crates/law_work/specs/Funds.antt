-- What is on file of Federal Work-Study. A history is read newest first.
use Rattle.std.specs.Prelude.{ℕ, ◌+◌, ◌-◌, ◌*◌, ◌==◌, ◌&&◌, Bool, true, false, if◌then◌else◌, List, [], ◌∷◌, length}
use Rattle.aid_types.specs.Nearest.{half_up}
use Rattle.law_work.specs.declared.filing.EarnFacts.{EarnFacts}
use Rattle.law_work.specs.declared.filing.WorkFiling.{WorkFiling}
use Rattle.law_work.specs.declared.filing.WorkWhat.{WorkWhat}
use Rattle.law_work.specs.declared.filing.WorkWhat.TheVariants.{Fund, Award, Earn, Release}

-- where an award stands: a school, an award year and a student
pub record Place : Type 0 where
  pub school : ℕ
  pub year : ℕ
  pub student : ℕ

abbrev pub place_at : ℕ → ℕ → ℕ → Place
place_at school year student = record { school = school; year = year; student = student }

-- the places of a school's award year, and the one of a student there
abbrev pub in_fund : ℕ → ℕ → Place → Bool
in_fund school year p = (p.school == school) && (p.year == year)

abbrev pub of_student : ℕ → ℕ → ℕ → Place → Bool
of_student school year student p = (p.student == student) && in_fund school year p

-- an earning in cents: the minutes at the wage of an hour, to the nearest cent, half a cent up (own)
abbrev pub earning : EarnFacts → ℕ
earning e = half_up (e.minutes * e.wage) 60

-- ---- what one filing of a school says
abbrev pub is_fund : ℕ → ℕ → ℕ → WorkWhat → Bool
is_fund school year of (Fund x) = (of == school) && (x.year == year)
is_fund school year of _ = false

abbrev pub is_award : ℕ → ℕ → ℕ → ℕ → WorkWhat → Bool
is_award school year student of (Award a) = of_student school year student (place_at of a.year a.student)
is_award school year student of _ = false

abbrev pub dollars_of : WorkWhat → ℕ
dollars_of (Fund x) = x.dollars
dollars_of (Award a) = a.dollars
dollars_of (Earn e) = 0
dollars_of (Release a) = a.dollars

abbrev pub if_passes : Bool → ℕ → ℕ
if_passes true amount = amount
if_passes false amount = 0

abbrev pub awarded_in : (Place → Bool) → ℕ → WorkWhat → ℕ
awarded_in test of (Award a) = if_passes (test (place_at of a.year a.student)) a.dollars
awarded_in test of _ = 0

abbrev pub released_in : (Place → Bool) → ℕ → WorkWhat → ℕ
released_in test of (Release a) = if_passes (test (place_at of a.year a.student)) a.dollars
released_in test of _ = 0

abbrev pub earned_in : (Place → Bool) → ℕ → WorkWhat → ℕ
earned_in test of (Earn e) = if_passes (test (place_at of e.year e.student)) (earning e)
earned_in test of _ = 0

-- ---- what stands
-- the position of the earliest filing that passes, counted from 1; 0 where none does
abbrev pub earlier_or : ℕ → ℕ → ℕ
earlier_or earlier here = if earlier == 0 then here else earlier

abbrev pub first_at : (ℕ → WorkWhat → Bool) → List WorkFiling → ℕ
first_at test [] = 0
first_at test (f ∷ past) = earlier_or (first_at test past) (if test f.key.school f.what then length past + 1 else 0)

-- the school's fund of a year, and the award of a student there: those that were filed first
abbrev pub fund_at : List WorkFiling → ℕ → ℕ → ℕ
fund_at past school year = first_at (is_fund school year) past

abbrev pub award_at : List WorkFiling → ℕ → ℕ → ℕ → ℕ
award_at past school year student = first_at (is_award school year student) past

-- the dollars of the fund; 0 where there is none
abbrev pub fund : List WorkFiling → ℕ → ℕ → ℕ
fund [] school year = 0
fund (f ∷ past) school year =
    if fund_at past school year == 0 then (if is_fund school year f.key.school f.what then dollars_of f.what else 0) else fund past school year

-- ---- sums at the places that pass: awards and releases in dollars, earnings in cents
abbrev pub awarded : List WorkFiling → (Place → Bool) → ℕ
awarded [] test = 0
awarded (f ∷ past) test = awarded_in test f.key.school f.what + awarded past test

abbrev pub released : List WorkFiling → (Place → Bool) → ℕ
released [] test = 0
released (f ∷ past) test = released_in test f.key.school f.what + released past test

abbrev pub earned : List WorkFiling → (Place → Bool) → ℕ
earned [] test = 0
earned (f ∷ past) test = earned_in test f.key.school f.what + earned past test

-- the awards in force, in dollars: the awards less their releases
abbrev pub in_force : List WorkFiling → (Place → Bool) → ℕ
in_force past test = awarded past test - released past test

-- what is left to award of a fund, in dollars: the fund less its awards in force
abbrev pub rest : List WorkFiling → ℕ → ℕ → ℕ
rest past school year = fund past school year - in_force past (in_fund school year)

-- the unearned part of a student's award in force, in cents
abbrev pub unearned : List WorkFiling → ℕ → ℕ → ℕ → ℕ
unearned past school year student = 100 * in_force past (of_student school year student) - earned past (of_student school year student)
