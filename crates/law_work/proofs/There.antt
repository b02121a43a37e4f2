-- In a list that breaks no rule, awards, releases and earnings of a fund are those of its holders.
use Rattle.std.proofs.Common.{◌≡◌, ℕ, ◌+◌, ◌-◌, ◌*◌, ◌≤◌, ◌<◌, refl, sym, ◌∙◌, arith, subst, cond, Bool, true, false, List, [], ◌∷◌}
use Rattle.aid_types.specs.declared.number.Key.{Key}
use Rattle.law_work.specs.declared.filing.DollarFacts.{DollarFacts}
use Rattle.law_work.specs.declared.filing.WorkFiling.{WorkFiling}
use Rattle.law_work.specs.declared.filing.WorkWhat.{WorkWhat}
use Rattle.law_work.specs.declared.filing.WorkWhat.TheVariants.{Fund, Award, Earn, Release}
use Rattle.law_work.specs.AddsUp.{holders}
use Rattle.law_work.specs.Funds.{Place, award_at, awarded, earned, earning, in_fund, of_student, place_at, released}
use Rattle.law_work.specs.Rules.{AreAllowed}
use Rattle.law_work.proofs.Holding.{IsAllowed, after, award_holds, earn_holds, release_holds}
use Rattle.law_work.proofs.Standing.{no_award}
use Rattle.law_work.proofs.Covered.{covered}
use Rattle.law_work.proofs.Within.{earned_within, of_own_fund}
use Rattle.law_work.proofs.Sums.{AddsTo, adds_first, adds_none, adds_one, adds_student, times}
use Rattle.law_work.proofs.Holders.{once, one_standing}

-- an amount of a list's filings, whose sums at students are that of the fund
abbrev pub IsThere : ((Place → Bool) → ℕ) → List WorkFiling → Type 0
IsThere amount past = (school year : ℕ) → AddsTo amount (holders past school year) school year

-- a student with an award stands once among its holders, and one without doesn't
holds_once : (past : List WorkFiling) → AreAllowed past → (own_school own_year student : ℕ) → 0 < award_at past own_school own_year student →
    (school year : ℕ) → in_fund school year (place_at own_school own_year student) ≡ true → times student (holders past school year) ≡ 1
holds_once past allowed own_school own_year student h school year e =
    of_own_fund (λ s y. times student (holders past s y) ≡ 1) own_school own_year school year e
    (once past allowed own_school own_year student ∙ one_standing (award_at past own_school own_year student) h)

holds_none : (past : List WorkFiling) → AreAllowed past → (school year student : ℕ) → award_at past school year student ≡ 0 →
    times student (holders past school year) ≡ 0
holds_none past allowed school year student h = let e = once past allowed school year student in rw h at e

-- the award of a filing is the student's first there
first_here : (past : List WorkFiling) (key : Key) (a : DollarFacts) → IsAllowed past key (Award a) → (school year : ℕ) →
    in_fund school year (place_at key.school a.year a.student) ≡ true → award_at past school year a.student ≡ 0
first_here past key a h school year e = of_own_fund (λ s y. award_at past s y a.student ≡ 0) key.school a.year school year e (award_holds past key a h).first

-- ---- awards
awarded_after_award : (past : List WorkFiling) → AreAllowed past → (key : Key) (a : DollarFacts) → IsAllowed past key (Award a) →
    IsThere (awarded past) past → IsThere (awarded (after past key (Award a))) (after past key (Award a))
awarded_after_award past allowed key a h old school year = go (in_fund school year (place_at key.school a.year a.student)) refl
  where
    go : (b : Bool) → in_fund school year (place_at key.school a.year a.student) ≡ b →
        AddsTo (awarded (after past key (Award a))) (holders (after past key (Award a)) school year) school year
    go false e =
        subst (λ c. AddsTo (awarded (after past key (Award a))) (cond c (a.student ∷ holders past school year) (holders past school year)) school year) (sym e)
        (adds_one (awarded past) (holders past school year) school year (place_at key.school a.year a.student) a.dollars (λ d. cc) (old school year))
    go true e =
        let first = first_here past key a h school year e in
        subst (λ c. AddsTo (awarded (after past key (Award a))) (cond c (a.student ∷ holders past school year) (holders past school year)) school year) (sym e)
        (adds_first (awarded past) (holders past school year) school year (place_at key.school a.year a.student) a.dollars
        (no_award past school year a.student first) (holds_none past allowed school year a.student first) (old school year))

awarded_step : (past : List WorkFiling) → AreAllowed past → (key : Key) (what : WorkWhat) → IsAllowed past key what →
    IsThere (awarded past) past → IsThere (awarded (after past key what)) (after past key what)
awarded_step past allowed key (Award a) h old = awarded_after_award past allowed key a h old
awarded_step past allowed key (Fund x) h old = λ school year. adds_none (awarded past) (holders past school year) school year (old school year)
awarded_step past allowed key (Earn e) h old = λ school year. adds_none (awarded past) (holders past school year) school year (old school year)
awarded_step past allowed key (Release a) h old = λ school year. adds_none (awarded past) (holders past school year) school year (old school year)

pub awarded_there : (past : List WorkFiling) → AreAllowed past → IsThere (awarded past) past
awarded_there [] h = λ school year. refl
awarded_there (f ∷ past) h = awarded_step past h.0 f.key f.what h.1 (awarded_there past h.0)

-- ---- an amount of which a student without an award has none, after an award
none_after_award : (amount : (Place → Bool) → ℕ) (past : List WorkFiling) (key : Key) (a : DollarFacts) → IsAllowed past key (Award a) →
    ((school year student : ℕ) → award_at past school year student ≡ 0 → amount (of_student school year student) ≡ 0) →
    IsThere amount past → IsThere (λ test. 0 + amount test) (after past key (Award a))
none_after_award amount past key a h none old school year = go (in_fund school year (place_at key.school a.year a.student)) refl
  where
    go : (b : Bool) → in_fund school year (place_at key.school a.year a.student) ≡ b →
        AddsTo (λ test. 0 + amount test) (holders (after past key (Award a)) school year) school year
    go false e =
        subst (λ c. AddsTo (λ test. 0 + amount test) (cond c (a.student ∷ holders past school year) (holders past school year)) school year) (sym e)
        (adds_none amount (holders past school year) school year (old school year))
    go true e =
        subst (λ c. AddsTo (λ test. 0 + amount test) (cond c (a.student ∷ holders past school year) (holders past school year)) school year) (sym e)
        (adds_student amount (holders past school year) school year a.student (none school year a.student (first_here past key a h school year e)) (old school year))

-- ---- releases
no_more : (r a : ℕ) → r ≤ a → a ≡ 0 → r ≡ 0
no_more r a h e = omega arith

none_released : (past : List WorkFiling) → AreAllowed past → (school year student : ℕ) → award_at past school year student ≡ 0 →
    released past (of_student school year student) ≡ 0
none_released past allowed school year student h =
    no_more (released past (of_student school year student)) (awarded past (of_student school year student))
    (covered past allowed (of_student school year student)) (no_award past school year student h)

released_step : (past : List WorkFiling) → AreAllowed past → (key : Key) (what : WorkWhat) → IsAllowed past key what →
    IsThere (released past) past → IsThere (released (after past key what)) (after past key what)
released_step past allowed key (Release a) h old = λ school year.
    adds_one (released past) (holders past school year) school year (place_at key.school a.year a.student) a.dollars
    (holds_once past allowed key.school a.year a.student (release_holds past key a h).0 school year) (old school year)
released_step past allowed key (Award a) h old = none_after_award (released past) past key a h (none_released past allowed) old
released_step past allowed key (Fund x) h old = λ school year. adds_none (released past) (holders past school year) school year (old school year)
released_step past allowed key (Earn e) h old = λ school year. adds_none (released past) (holders past school year) school year (old school year)

pub released_there : (past : List WorkFiling) → AreAllowed past → IsThere (released past) past
released_there [] h = λ school year. refl
released_there (f ∷ past) h = released_step past h.0 f.key f.what h.1 (released_there past h.0)

-- ---- earnings
no_cents : (e a r : ℕ) → e ≤ 100 * (a - r) → a ≡ 0 → e ≡ 0
no_cents e a r h z = omega arith

none_earned : (past : List WorkFiling) → AreAllowed past → (school year student : ℕ) → award_at past school year student ≡ 0 →
    earned past (of_student school year student) ≡ 0
none_earned past allowed school year student h =
    no_cents (earned past (of_student school year student)) (awarded past (of_student school year student)) (released past (of_student school year student))
    (earned_within past allowed school year student) (no_award past school year student h)

earned_step : (past : List WorkFiling) → AreAllowed past → (key : Key) (what : WorkWhat) → IsAllowed past key what →
    IsThere (earned past) past → IsThere (earned (after past key what)) (after past key what)
earned_step past allowed key (Earn e) h old = λ school year.
    adds_one (earned past) (holders past school year) school year (place_at key.school e.year e.student) (earning e)
    (holds_once past allowed key.school e.year e.student (earn_holds past key e h).0 school year) (old school year)
earned_step past allowed key (Award a) h old = none_after_award (earned past) past key a h (none_earned past allowed) old
earned_step past allowed key (Fund x) h old = λ school year. adds_none (earned past) (holders past school year) school year (old school year)
earned_step past allowed key (Release a) h old = λ school year. adds_none (earned past) (holders past school year) school year (old school year)

pub earned_there : (past : List WorkFiling) → AreAllowed past → IsThere (earned past) past
earned_there [] h = λ school year. refl
earned_there (f ∷ past) h = earned_step past h.0 f.key f.what h.1 (earned_there past h.0)
