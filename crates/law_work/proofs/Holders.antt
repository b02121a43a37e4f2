-- In a list that breaks no rule, the students with an award of a school's year are its holders, each once.
use Rattle.std.proofs.Common.{◌≡◌, ℕ, zero, suc, ◌+◌, ◌<◌, refl, sym, arith, subst, cond, Bool, true, false, ◌&&◌, List, [], ◌∷◌, length, ne_eqb, eq-eqb, eqb-true}
use Rattle.std.specs.Prelude.{◌==◌, if◌then◌else◌}
use Rattle.aid_types.specs.declared.number.Key.{Key}
use Rattle.law_work.specs.declared.filing.DollarFacts.{DollarFacts}
use Rattle.law_work.specs.declared.filing.WorkFiling.{WorkFiling}
use Rattle.law_work.specs.declared.filing.WorkWhat.{WorkWhat}
use Rattle.law_work.specs.declared.filing.WorkWhat.TheVariants.{Fund, Award, Earn, Release}
use Rattle.law_work.specs.AddsUp.{holders}
use Rattle.law_work.specs.Funds.{award_at, earlier_or, if_passes}
use Rattle.law_work.specs.Rules.{AreAllowed}
use Rattle.law_work.proofs.Holding.{IsAllowed, after, award_holds}
use Rattle.law_work.proofs.Standing.{earlier_still}
use Rattle.law_work.proofs.Sums.{times}
use Rattle.law_work.proofs.Within.{of_own_fund}

-- 1 where something stands at a position
abbrev pub one_at : ℕ → ℕ
one_at at = if at == 0 then 0 else 1

pub one_standing : (at : ℕ) → 0 < at → one_at at ≡ 1
one_standing zero h = absurd (omega arith)
one_standing (suc at) h = let e : (suc at == 0) ≡ false = ne_eqb (suc at) 0 (λ z. omega arith) in rw e refl

-- a test of two numbers is the same in both orders
turned : (a b : ℕ) → (a == b) ≡ (b == a)
turned a b = go (a == b) refl
  where
    go : (c : Bool) → (a == b) ≡ c → (a == b) ≡ (b == a)
    go true e = let d : (b == a) ≡ true = eq-eqb b a (sym (eqb-true a b e)) in cc
    go false e = let d : (b == a) ≡ false = ne_eqb b a (λ q. let t : (a == b) ≡ true = eq-eqb a b (sym q) in let bad : ⊥ = cc in bad) in cc

-- an award of the school's year: of the student, or of another one
one_more : (b d : Bool) (k t n : ℕ) → b ≡ d → (d ≡ true → k ≡ 0) → t ≡ one_at k → if_passes b 1 + t ≡ one_at (earlier_or k (cond (d && true) (n + 1) 0))
one_more true true k t n q h e =
    let z : k ≡ 0 = h refl in
    let none : t ≡ 0 = rw z at e in
    let one : one_at (n + 1) ≡ 1 = one_standing (n + 1) (omega arith) in
    rw (z, none, one) refl
one_more false false k t n q h e = rw (earlier_still k, e) (omega arith)
one_more true false k t n q h e = cc
one_more false true k t n q h e = cc

-- of another school's year
still : (b c : Bool) (k t n : ℕ) → c ≡ false → t ≡ one_at k → t ≡ one_at (earlier_or k (cond (b && c) (n + 1) 0))
still true c k t n d e = rw (d, earlier_still k) e
still false c k t n d e = rw (earlier_still k) e

kept : (k t : ℕ) → t ≡ one_at k → t ≡ one_at (earlier_or k 0)
kept k t e = rw (earlier_still k) e

abbrev pub AreOnce : List WorkFiling → Type 0
AreOnce past = (school year student : ℕ) → times student (holders past school year) ≡ one_at (award_at past school year student)

once_after_award : (past : List WorkFiling) (key : Key) (a : DollarFacts) → IsAllowed past key (Award a) → AreOnce past → AreOnce (after past key (Award a))
once_after_award past key a h old school year student = go ((key.school == school) && (a.year == year)) refl
  where
    go : (c : Bool) → ((key.school == school) && (a.year == year)) ≡ c →
        times student (holders (after past key (Award a)) school year) ≡ one_at (award_at (after past key (Award a)) school year student)
    go false e = rw e (still (a.student == student) false (award_at past school year student) (times student (holders past school year)) (length past) refl
        (old school year student))
    go true e =
        let first : (a.student == student) ≡ true → award_at past school year student ≡ 0 = λ d.
        of_own_fund (λ s y. award_at past s y student ≡ 0) key.school a.year school year e
        (subst (λ who. award_at past key.school a.year who ≡ 0) (eqb-true a.student student d) (award_holds past key a h).first) in
        rw e (one_more (student == a.student) (a.student == student) (award_at past school year student) (times student (holders past school year)) (length past)
        (turned student a.student) first (old school year student))

step : (past : List WorkFiling) (key : Key) (what : WorkWhat) → IsAllowed past key what → AreOnce past → AreOnce (after past key what)
step past key (Award a) h old = once_after_award past key a h old
step past key (Fund x) h old = λ school year student. kept (award_at past school year student) (times student (holders past school year)) (old school year student)
step past key (Earn e) h old = λ school year student. kept (award_at past school year student) (times student (holders past school year)) (old school year student)
step past key (Release a) h old = λ school year student. kept (award_at past school year student) (times student (holders past school year)) (old school year student)

pub once : (past : List WorkFiling) → AreAllowed past → AreOnce past
once [] h = λ school year student. refl
once (f ∷ past) h = step past f.key f.what h.1 (once past h.0)
