-- In a list that breaks no rule, the awards in force of each fund are within it, and nobody earns past an award, which is small.
use Rattle.std.proofs.Common.{◌≡◌, ℕ, ◌+◌, ◌-◌, ◌*◌, ◌≤◌, refl, sym, arith, subst, Bool, true, false, ◌&&◌, List, [], ◌∷◌, eqb-true, zero-le}
use Rattle.std.specs.Prelude.{◌==◌}
use Rattle.std.proofs.lemmas.Bool.{and_parts}
use Rattle.aid_types.specs.declared.number.Key.{Key}
use Rattle.law_work.specs.declared.filing.DollarFacts.{DollarFacts}
use Rattle.law_work.specs.declared.filing.EarnFacts.{EarnFacts}
use Rattle.law_work.specs.declared.filing.FundFacts.{FundFacts}
use Rattle.law_work.specs.declared.filing.WorkFiling.{WorkFiling}
use Rattle.law_work.specs.declared.filing.WorkWhat.{WorkWhat}
use Rattle.law_work.specs.declared.filing.WorkWhat.TheVariants.{Fund, Award, Earn, Release}
use Rattle.law_work.specs.Funds.{awarded, earned, earning, fund, if_passes, in_force, in_fund, of_student, place_at, released}
use Rattle.law_work.specs.Rules.{AreAllowed}
use Rattle.law_work.proofs.Holding.{IsAllowed, after, award_holds, earn_holds, fund_holds, release_holds}
use Rattle.law_work.proofs.Standing.{fund_kept, no_award, no_fund}

-- what holds of the places of one filing holds of those that pass its test
pub of_own_fund : (P : ℕ → ℕ → Type 0) (own_school own_year school year : ℕ) → ((own_school == school) && (own_year == year)) ≡ true →
    P own_school own_year → P school year
of_own_fund P own_school own_year school year e h =
    let both = and_parts (own_school == school) (own_year == year) e in
    subst (λ y. P school y) (eqb-true own_year year both.1) (subst (λ s. P s own_year) (eqb-true own_school school both.0) h)

pub of_own_student : (P : ℕ → ℕ → ℕ → Type 0) (own_school own_year own_student school year student : ℕ) →
    of_student school year student (place_at own_school own_year own_student) ≡ true → P own_school own_year own_student → P school year student
of_own_student P own_school own_year own_student school year student e h =
    let both = and_parts (own_student == student) ((own_school == school) && (own_year == year)) e in
    of_own_fund (λ s y. P s y student) own_school own_year school year both.1
    (subst (λ t. P own_school own_year t) (eqb-true own_student student both.0) h)

-- ---- the awards in force of a fund
abbrev AwardsWithin : List WorkFiling → ℕ → ℕ → Type 0
AwardsWithin past school year = in_force past (in_fund school year) ≤ fund past school year

-- where they don't rise, and the fund stays
lower : (x a r f g : ℕ) → a - r ≤ f → g ≡ f → (0 + a) - (x + r) ≤ g
lower x a r f g h e = omega arith

none_left : (a r f g : ℕ) → a - r ≤ f → f ≡ 0 → (0 + a) - (0 + r) ≤ g
none_left a r f g h e = omega arith

added : (n a r f g : ℕ) → (a - r) + n ≤ f → g ≡ f → (n + a) - (0 + r) ≤ g
added n a r f g h e = omega arith

awards_after_fund : (past : List WorkFiling) (key : Key) (x : FundFacts) → IsAllowed past key (Fund x) →
    ((school year : ℕ) → AwardsWithin past school year) → (school year : ℕ) → AwardsWithin (after past key (Fund x)) school year
awards_after_fund past key x h old school year = go ((key.school == school) && (x.year == year)) refl
  where
    go : (b : Bool) → ((key.school == school) && (x.year == year)) ≡ b → AwardsWithin (after past key (Fund x)) school year
    go false e =
        lower 0 (awarded past (in_fund school year)) (released past (in_fund school year)) (fund past school year) (fund (after past key (Fund x)) school year)
        (old school year) (fund_kept past key (Fund x) school year e)
    go true e =
        of_own_fund (AwardsWithin (after past key (Fund x))) key.school x.year school year e
        (none_left (awarded past (in_fund key.school x.year)) (released past (in_fund key.school x.year)) (fund past key.school x.year)
        (fund (after past key (Fund x)) key.school x.year) (old key.school x.year) (no_fund past key.school x.year (fund_holds past key x h)))

-- with what passes of an award
abbrev AwardsAfter : List WorkFiling → Key → DollarFacts → Bool → ℕ → ℕ → Type 0
AwardsAfter past key a b school year =
    (if_passes b a.dollars + awarded past (in_fund school year)) - (0 + released past (in_fund school year)) ≤ fund (after past key (Award a)) school year

awards_after_award : (past : List WorkFiling) (key : Key) (a : DollarFacts) → IsAllowed past key (Award a) →
    ((school year : ℕ) → AwardsWithin past school year) → (school year : ℕ) → AwardsWithin (after past key (Award a)) school year
awards_after_award past key a h old school year = go ((key.school == school) && (a.year == year)) refl
  where
    kept : (s y : ℕ) → fund (after past key (Award a)) s y ≡ fund past s y
    kept s y = fund_kept past key (Award a) s y refl

    here : AwardsAfter past key a true key.school a.year
    here =
        added a.dollars (awarded past (in_fund key.school a.year)) (released past (in_fund key.school a.year)) (fund past key.school a.year)
        (fund (after past key (Award a)) key.school a.year) (award_holds past key a h).within (kept key.school a.year)

    go : (b : Bool) → ((key.school == school) && (a.year == year)) ≡ b → AwardsWithin (after past key (Award a)) school year
    go false e =
        subst (λ b. AwardsAfter past key a b school year) (sym e)
        (lower 0 (awarded past (in_fund school year)) (released past (in_fund school year)) (fund past school year) (fund (after past key (Award a)) school year)
        (old school year) (kept school year))
    go true e = subst (λ b. AwardsAfter past key a b school year) (sym e) (of_own_fund (AwardsAfter past key a true) key.school a.year school year e here)

awards_step : (past : List WorkFiling) (key : Key) (what : WorkWhat) → IsAllowed past key what →
    ((school year : ℕ) → AwardsWithin past school year) → (school year : ℕ) → AwardsWithin (after past key what) school year
awards_step past key (Fund x) h old = awards_after_fund past key x h old
awards_step past key (Award a) h old = awards_after_award past key a h old
awards_step past key (Earn e) h old = λ school year.
    lower 0 (awarded past (in_fund school year)) (released past (in_fund school year)) (fund past school year) (fund (after past key (Earn e)) school year)
    (old school year) (fund_kept past key (Earn e) school year refl)
awards_step past key (Release a) h old = λ school year.
    lower (if_passes (in_fund school year (place_at key.school a.year a.student)) a.dollars)
    (awarded past (in_fund school year)) (released past (in_fund school year)) (fund past school year) (fund (after past key (Release a)) school year)
    (old school year) (fund_kept past key (Release a) school year refl)

pub awards_within : (past : List WorkFiling) → AreAllowed past → (school year : ℕ) → in_force past (in_fund school year) ≤ fund past school year
awards_within [] h = λ school year. zero-le
awards_within (f ∷ past) h = awards_step past f.key f.what h.1 (awards_within past h.0)

-- ---- the award in force of a student
abbrev AwardWithin : List WorkFiling → ℕ → ℕ → ℕ → Type 0
AwardWithin past school year student = in_force past (of_student school year student) ≤ 4000

first_award : (n a r : ℕ) → n ≤ 4000 → a ≡ 0 → (n + a) - (0 + r) ≤ 4000
first_award n a r h e = omega arith

lower_award : (x a r : ℕ) → a - r ≤ 4000 → (0 + a) - (x + r) ≤ 4000
lower_award x a r h = omega arith

-- with what passes of an award
abbrev AwardAfter : List WorkFiling → DollarFacts → Bool → ℕ → ℕ → ℕ → Type 0
AwardAfter past a b school year student =
    (if_passes b a.dollars + awarded past (of_student school year student)) - (0 + released past (of_student school year student)) ≤ 4000

award_after_award : (past : List WorkFiling) (key : Key) (a : DollarFacts) → IsAllowed past key (Award a) →
    ((school year student : ℕ) → AwardWithin past school year student) → (school year student : ℕ) → AwardWithin (after past key (Award a)) school year student
award_after_award past key a h old school year student = go (of_student school year student (place_at key.school a.year a.student)) refl
  where
    here : AwardAfter past a true key.school a.year a.student
    here =
        let k = award_holds past key a h in
        first_award a.dollars (awarded past (of_student key.school a.year a.student)) (released past (of_student key.school a.year a.student)) k.most
        (no_award past key.school a.year a.student k.first)

    go : (b : Bool) → of_student school year student (place_at key.school a.year a.student) ≡ b → AwardWithin (after past key (Award a)) school year student
    go false e =
        subst (λ b. AwardAfter past a b school year student) (sym e)
        (lower_award 0 (awarded past (of_student school year student)) (released past (of_student school year student)) (old school year student))
    go true e = subst (λ b. AwardAfter past a b school year student) (sym e) (of_own_student (AwardAfter past a true) key.school a.year a.student school year student e here)

award_step : (past : List WorkFiling) (key : Key) (what : WorkWhat) → IsAllowed past key what →
    ((school year student : ℕ) → AwardWithin past school year student) → (school year student : ℕ) → AwardWithin (after past key what) school year student
award_step past key (Award a) h old = award_after_award past key a h old
award_step past key (Fund x) h old = λ school year student.
    lower_award 0 (awarded past (of_student school year student)) (released past (of_student school year student)) (old school year student)
award_step past key (Earn e) h old = λ school year student.
    lower_award 0 (awarded past (of_student school year student)) (released past (of_student school year student)) (old school year student)
award_step past key (Release a) h old = λ school year student.
    lower_award (if_passes (of_student school year student (place_at key.school a.year a.student)) a.dollars)
    (awarded past (of_student school year student)) (released past (of_student school year student)) (old school year student)

pub award_within : (past : List WorkFiling) → AreAllowed past → (school year student : ℕ) → in_force past (of_student school year student) ≤ 4000
award_within [] h = λ school year student. zero-le
award_within (f ∷ past) h = award_step past f.key f.what h.1 (award_within past h.0)

-- ---- what a student earned
abbrev EarnedWithin : List WorkFiling → ℕ → ℕ → ℕ → Type 0
EarnedWithin past school year student = earned past (of_student school year student) ≤ 100 * in_force past (of_student school year student)

more_award : (x e a r : ℕ) → e ≤ 100 * (a - r) → 0 + e ≤ 100 * ((x + a) - (0 + r))
more_award x e a r h = omega arith

more_earned : (n e a r : ℕ) → e + n ≤ 100 * (a - r) → n + e ≤ 100 * ((0 + a) - (0 + r))
more_earned n e a r h = omega arith

less_award : (n e a r : ℕ) → e ≤ 100 * (a - r) → 100 * n ≤ 100 * (a - r) - e → 0 + e ≤ 100 * ((0 + a) - (n + r))
less_award n e a r h k = omega arith

-- with what passes of an earning, or of a release
abbrev EarnedAfter : List WorkFiling → ℕ → ℕ → ℕ → ℕ → ℕ → Type 0
EarnedAfter past cents dollars school year student =
    cents + earned past (of_student school year student)
    ≤ 100 * ((0 + awarded past (of_student school year student)) - (dollars + released past (of_student school year student)))

earned_after_earning : (past : List WorkFiling) (key : Key) (w : EarnFacts) → IsAllowed past key (Earn w) →
    ((school year student : ℕ) → EarnedWithin past school year student) → (school year student : ℕ) → EarnedWithin (after past key (Earn w)) school year student
earned_after_earning past key w h old school year student = go (of_student school year student (place_at key.school w.year w.student)) refl
  where
    here : EarnedAfter past (earning w) 0 key.school w.year w.student
    here =
        more_earned (earning w) (earned past (of_student key.school w.year w.student)) (awarded past (of_student key.school w.year w.student))
        (released past (of_student key.school w.year w.student)) (earn_holds past key w h).1

    go : (b : Bool) → of_student school year student (place_at key.school w.year w.student) ≡ b → EarnedWithin (after past key (Earn w)) school year student
    go false e =
        subst (λ b. EarnedAfter past (if_passes b (earning w)) 0 school year student) (sym e)
        (more_award 0 (earned past (of_student school year student)) (awarded past (of_student school year student))
        (released past (of_student school year student)) (old school year student))
    go true e =
        subst (λ b. EarnedAfter past (if_passes b (earning w)) 0 school year student) (sym e)
        (of_own_student (EarnedAfter past (earning w) 0) key.school w.year w.student school year student e here)

earned_after_release : (past : List WorkFiling) (key : Key) (a : DollarFacts) → IsAllowed past key (Release a) →
    ((school year student : ℕ) → EarnedWithin past school year student) → (school year student : ℕ) → EarnedWithin (after past key (Release a)) school year student
earned_after_release past key a h old school year student = go (of_student school year student (place_at key.school a.year a.student)) refl
  where
    here : EarnedAfter past 0 a.dollars key.school a.year a.student
    here =
        less_award a.dollars (earned past (of_student key.school a.year a.student)) (awarded past (of_student key.school a.year a.student))
        (released past (of_student key.school a.year a.student)) (old key.school a.year a.student) (release_holds past key a h).1

    go : (b : Bool) → of_student school year student (place_at key.school a.year a.student) ≡ b → EarnedWithin (after past key (Release a)) school year student
    go false e =
        subst (λ b. EarnedAfter past 0 (if_passes b a.dollars) school year student) (sym e)
        (more_award 0 (earned past (of_student school year student)) (awarded past (of_student school year student))
        (released past (of_student school year student)) (old school year student))
    go true e =
        subst (λ b. EarnedAfter past 0 (if_passes b a.dollars) school year student) (sym e)
        (of_own_student (EarnedAfter past 0 a.dollars) key.school a.year a.student school year student e here)

earned_step : (past : List WorkFiling) (key : Key) (what : WorkWhat) → IsAllowed past key what →
    ((school year student : ℕ) → EarnedWithin past school year student) → (school year student : ℕ) → EarnedWithin (after past key what) school year student
earned_step past key (Earn w) h old = earned_after_earning past key w h old
earned_step past key (Release a) h old = earned_after_release past key a h old
earned_step past key (Fund x) h old = λ school year student.
    more_award 0 (earned past (of_student school year student)) (awarded past (of_student school year student)) (released past (of_student school year student))
    (old school year student)
earned_step past key (Award a) h old = λ school year student.
    more_award (if_passes (of_student school year student (place_at key.school a.year a.student)) a.dollars)
    (earned past (of_student school year student)) (awarded past (of_student school year student)) (released past (of_student school year student))
    (old school year student)

pub earned_within : (past : List WorkFiling) → AreAllowed past → (school year student : ℕ) →
    earned past (of_student school year student) ≤ 100 * in_force past (of_student school year student)
earned_within [] h = λ school year student. zero-le
earned_within (f ∷ past) h = earned_step past f.key f.what h.1 (earned_within past h.0)
