-- Where no fund or no award stands, and what one filing more changes of it.
use Rattle.std.proofs.Common.{◌≡◌, ℕ, zero, suc, ◌+◌, ◌≤◌, refl, arith, cond, Bool, true, false, List, [], ◌∷◌, length, ne_eqb, zero-le}
use Rattle.std.specs.Prelude.{◌==◌}
use Rattle.aid_types.specs.declared.number.Key.{Key}
use Rattle.law_work.specs.declared.filing.WorkFiling.{WorkFiling}
use Rattle.law_work.specs.declared.filing.WorkWhat.{WorkWhat}
use Rattle.law_work.specs.declared.filing.WorkWhat.TheVariants.{Fund, Award, Earn, Release}
use Rattle.law_work.specs.Funds.{award_at, awarded, awarded_in, dollars_of, earlier_or, fund, fund_at, if_passes, is_award, is_fund, of_student}
use Rattle.law_work.proofs.Holding.{after}

-- ---- positions
-- one is 0 only where there was none before and this filing doesn't pass
pub none_before : (k : ℕ) (b : Bool) (n : ℕ) → earlier_or k (cond b (n + 1) 0) ≡ 0 → (k ≡ 0) × (b ≡ false)
none_before zero true n h = absurd (omega arith)
none_before zero false n h = (refl, refl)
none_before (suc k) b n h =
    let e : (suc k == 0) ≡ false = ne_eqb (suc k) 0 (λ z. omega arith) in
    let d : suc k ≡ 0 = rw e at h in
    absurd (omega arith)

-- a filing that doesn't pass leaves it
pub earlier_still : (k : ℕ) → earlier_or k 0 ≡ k
earlier_still zero = refl
earlier_still (suc k) = let e : (suc k == 0) ≡ false = ne_eqb (suc k) 0 (λ z. omega arith) in rw e refl

-- ---- amounts that pass
pub passes_none : (b : Bool) (n : ℕ) → b ≡ false → if_passes b n ≡ 0
passes_none true n e = cc
passes_none false n e = refl

-- ---- a fund that isn't filed has no dollars
no_fund_in : (k : ℕ) (b : Bool) (n d old : ℕ) → earlier_or k (cond b (n + 1) 0) ≡ 0 → cond (k == 0) (cond b d 0) old ≡ 0
no_fund_in k b n d old h =
    let parts = none_before k b n h in
    rw (parts.0, parts.1) refl

pub no_fund : (past : List WorkFiling) (school year : ℕ) → fund_at past school year ≡ 0 → fund past school year ≡ 0
no_fund [] school year h = refl
no_fund (f ∷ past) school year h =
    no_fund_in (fund_at past school year) (is_fund school year f.key.school f.what) (length past) (dollars_of f.what) (fund past school year) h

-- a filing that isn't the fund leaves its dollars
fund_still : (k : ℕ) (b : Bool) (d old : ℕ) → (k ≡ 0 → old ≡ 0) → b ≡ false → cond (k == 0) (cond b d 0) old ≡ old
fund_still zero b d old h e = let z : old ≡ 0 = h refl in rw (e, z) refl
fund_still (suc k) b d old h e = let g : (suc k == 0) ≡ false = ne_eqb (suc k) 0 (λ z. omega arith) in rw g refl

pub fund_kept : (past : List WorkFiling) (key : Key) (what : WorkWhat) (school year : ℕ) → is_fund school year key.school what ≡ false →
    fund (after past key what) school year ≡ fund past school year
fund_kept past key what school year e =
    fund_still (fund_at past school year) (is_fund school year key.school what) (dollars_of what) (fund past school year) (no_fund past school year) e

-- a fund is below ten million dollars
fund_in_most : (what : WorkWhat) (school year of : ℕ) → is_fund school year of what ≡ true → dollars_of what ≤ 9999999
fund_in_most (Fund x) school year of e = x.in_range
fund_in_most (Award a) school year of e = cc
fund_in_most (Earn w) school year of e = zero-le
fund_in_most (Release a) school year of e = cc

either_most : (b c : Bool) (d old most : ℕ) → (c ≡ true → d ≤ most) → old ≤ most → cond b (cond c d 0) old ≤ most
either_most true true d old most h k = h refl
either_most true false d old most h k = zero-le
either_most false c d old most h k = k

pub fund_most : (past : List WorkFiling) (school year : ℕ) → fund past school year ≤ 9999999
fund_most [] school year = zero-le
fund_most (f ∷ past) school year =
    either_most (fund_at past school year == 0) (is_fund school year f.key.school f.what) (dollars_of f.what) (fund past school year) 9999999
    (fund_in_most f.what school year f.key.school) (fund_most past school year)

-- ---- a student without an award was awarded nothing
no_award_in : (what : WorkWhat) (school year student of : ℕ) → is_award school year student of what ≡ false → awarded_in (of_student school year student) of what ≡ 0
no_award_in (Award a) school year student of e = passes_none _ a.dollars e
no_award_in (Fund x) school year student of e = refl
no_award_in (Earn w) school year student of e = refl
no_award_in (Release a) school year student of e = refl

nothing : (a b : ℕ) → a ≡ 0 → b ≡ 0 → a + b ≡ 0
nothing a b e d = omega arith

pub no_award : (past : List WorkFiling) (school year student : ℕ) → award_at past school year student ≡ 0 → awarded past (of_student school year student) ≡ 0
no_award [] school year student h = refl
no_award (f ∷ past) school year student h =
    let parts = none_before (award_at past school year student) (is_award school year student f.key.school f.what) (length past) h in
    nothing (awarded_in (of_student school year student) f.key.school f.what) (awarded past (of_student school year student))
    (no_award_in f.what school year student f.key.school parts.1) (no_award past school year student parts.0)
