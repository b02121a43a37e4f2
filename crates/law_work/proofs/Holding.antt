-- What holds where a filing breaks no rule.
use Rattle.std.proofs.Common.{◌≡◌, ℕ, ◌+◌, ◌-◌, ◌*◌, ◌≤◌, ◌<◌, refl, Bool, true, false, List, ◌∷◌, length, None, leb-false, ltb-false}
use Rattle.std.specs.Prelude.{◌||◌}
use Rattle.aid_types.specs.declared.number.Key.{Key}
use Rattle.aid_types.proofs.Holds.{all_hold, lacks_holds, over_holds, stands_holds}
use Rattle.law_work.specs.declared.filing.DollarFacts.{DollarFacts}
use Rattle.law_work.specs.declared.filing.EarnFacts.{EarnFacts}
use Rattle.law_work.specs.declared.filing.FundFacts.{FundFacts}
use Rattle.law_work.specs.declared.filing.WorkFiling.{WorkFiling}
use Rattle.law_work.specs.declared.filing.WorkWhat.{WorkWhat}
use Rattle.law_work.specs.declared.filing.WorkWhat.TheVariants.{Fund, Award, Earn, Release}
use Rattle.law_work.specs.Funds.{award_at, earned, earning, fund, fund_at, in_force, in_fund, of_student}
use Rattle.law_work.specs.Rules.{breaks, facts_of, lines_of}

-- a list with one filing more
abbrev pub after : List WorkFiling → Key → WorkWhat → List WorkFiling
after past key what = record { key = key; what = what } ∷ past

-- a filing breaks no rule after the filings past
abbrev pub IsAllowed : List WorkFiling → Key → WorkWhat → Type 0
IsAllowed past key what = breaks past (record { key = key; what = what }) ≡ None

-- 210: the office isn't full
pub has_room : (past : List WorkFiling) (f : WorkFiling) → breaks past f ≡ None → length past < 200000
has_room past f h =
    let k = all_hold (lines_of (facts_of past f) f) h in
    leb-false 200000 (length past) k.0

-- a fund: none of the school and the year is on file
pub fund_holds : (past : List WorkFiling) (key : Key) (x : FundFacts) → IsAllowed past key (Fund x) → fund_at past key.school x.year ≡ 0
fund_holds past key x h =
    let f : WorkFiling = record { key = key; what = Fund x } in
    let k = all_hold (lines_of (facts_of past f) f) h in
    stands_holds 211 (fund_at past key.school x.year) x.year k.1.0

-- an award: the fund is on file, it has an amount of an award, the student has none there, and the awards in force with it are within
-- the fund
pub record AwardHolds (past : List WorkFiling) (school : ℕ) (a : DollarFacts) : Type 0 where
  pub filed : 0 < fund_at past school a.year
  pub least : 100 ≤ a.dollars
  pub most : a.dollars ≤ 4000
  pub first : award_at past school a.year a.student ≡ 0
  pub within : in_force past (in_fund school a.year) + a.dollars ≤ fund past school a.year

neither : (b c : Bool) → (b || c) ≡ false → (b ≡ false) × (c ≡ false)
neither true c h = cc
neither false c h = (refl, h)

pub award_holds : (past : List WorkFiling) (key : Key) (a : DollarFacts) → IsAllowed past key (Award a) → AwardHolds past key.school a
award_holds past key a h =
    let f : WorkFiling = record { key = key; what = Award a } in
    let k = all_hold (lines_of (facts_of past f) f) h in
    let size = neither _ _ k.1.1.0 in record {
      filed = lacks_holds 212 (fund_at past key.school a.year) key.school a.year k.1.0;
      least = ltb-false a.dollars 100 size.0;
      most = ltb-false 4000 a.dollars size.1;
      first = stands_holds 214 (award_at past key.school a.year a.student) a.student k.1.1.1.0;
      within = over_holds 215 (in_force past (in_fund key.school a.year) + a.dollars) (fund past key.school a.year) k.1.1.1.1.0;
    }

-- an earning: the student has an award there, and what is earned with it is within the award in force
pub earn_holds : (past : List WorkFiling) (key : Key) (e : EarnFacts) → IsAllowed past key (Earn e) →
    (0 < award_at past key.school e.year e.student)
    × (earned past (of_student key.school e.year e.student) + earning e ≤ 100 * in_force past (of_student key.school e.year e.student))
earn_holds past key e h =
    let f : WorkFiling = record { key = key; what = Earn e } in
    let k = all_hold (lines_of (facts_of past f) f) h in (
      lacks_holds 216 (award_at past key.school e.year e.student) e.student e.year k.1.0,
      over_holds 218 (earned past (of_student key.school e.year e.student) + earning e) (100 * in_force past (of_student key.school e.year e.student)) k.1.1.1.0,
    )

-- a release: the student has an award there, and it is at most its unearned part
pub release_holds : (past : List WorkFiling) (key : Key) (a : DollarFacts) → IsAllowed past key (Release a) →
    (0 < award_at past key.school a.year a.student)
    × (100 * a.dollars ≤ 100 * in_force past (of_student key.school a.year a.student) - earned past (of_student key.school a.year a.student))
release_holds past key a h =
    let f : WorkFiling = record { key = key; what = Release a } in
    let k = all_hold (lines_of (facts_of past f) f) h in (
      lacks_holds 216 (award_at past key.school a.year a.student) a.student a.year k.1.0,
      over_holds 219 (100 * a.dollars) (100 * in_force past (of_student key.school a.year a.student) - earned past (of_student key.school a.year a.student)) k.1.1.1.0,
    )
