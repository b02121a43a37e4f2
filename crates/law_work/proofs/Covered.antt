-- In a list that breaks no rule, no more is released than was awarded, at any places.
use Rattle.std.proofs.Common.{◌≡◌, ℕ, ◌+◌, ◌-◌, ◌*◌, ◌≤◌, refl, sym, arith, subst, Bool, true, false, not, ◌&&◌, List, [], ◌∷◌, eqb-true, zero-le}
use Rattle.std.specs.Prelude.{◌==◌}
use Rattle.std.proofs.lemmas.Bool.{and_parts}
use Rattle.aid_types.specs.declared.number.Key.{Key}
use Rattle.law_work.specs.declared.filing.DollarFacts.{DollarFacts}
use Rattle.law_work.specs.declared.filing.WorkFiling.{WorkFiling}
use Rattle.law_work.specs.declared.filing.WorkWhat.{WorkWhat}
use Rattle.law_work.specs.declared.filing.WorkWhat.TheVariants.{Fund, Award, Earn, Release}
use Rattle.law_work.specs.Funds.{Place, awarded, awarded_in, earned, if_passes, of_student, place_at, released, released_in}
use Rattle.law_work.specs.Rules.{AreAllowed}
use Rattle.law_work.proofs.Holding.{IsAllowed, after, release_holds}

-- ---- sums of what passes, in two parts
-- the places that pass but for some of them
abbrev but : (Place → Bool) → (Place → Bool) → Place → Bool
but test own p = test p && not (own p)

abbrev IsPart : (Place → Bool) → (Place → Bool) → Type 0
IsPart own test = (p : Place) → own p ≡ true → test p ≡ true

passes_split : (t o : Bool) (n : ℕ) → (o ≡ true → t ≡ true) → if_passes t n ≡ if_passes (t && not o) n + if_passes o n
passes_split true true n h = omega arith
passes_split true false n h = omega arith
passes_split false true n h = let e : false ≡ true = h refl in cc
passes_split false false n h = refl

awarded_in_split : (what : WorkWhat) (of : ℕ) (test own : Place → Bool) → IsPart own test →
    awarded_in test of what ≡ awarded_in (but test own) of what + awarded_in own of what
awarded_in_split (Award a) of test own h = passes_split (test (place_at of a.year a.student)) (own (place_at of a.year a.student)) a.dollars (h (place_at of a.year a.student))
awarded_in_split (Fund x) of test own h = refl
awarded_in_split (Earn e) of test own h = refl
awarded_in_split (Release a) of test own h = refl

released_in_split : (what : WorkWhat) (of : ℕ) (test own : Place → Bool) → IsPart own test →
    released_in test of what ≡ released_in (but test own) of what + released_in own of what
released_in_split (Release a) of test own h = passes_split (test (place_at of a.year a.student)) (own (place_at of a.year a.student)) a.dollars (h (place_at of a.year a.student))
released_in_split (Fund x) of test own h = refl
released_in_split (Award a) of test own h = refl
released_in_split (Earn e) of test own h = refl

both : (a a1 a2 b b1 b2 : ℕ) → a ≡ a1 + a2 → b ≡ b1 + b2 → a + b ≡ (a1 + b1) + (a2 + b2)
both a a1 a2 b b1 b2 d e = omega arith

awarded_split : (past : List WorkFiling) (test own : Place → Bool) → IsPart own test → awarded past test ≡ awarded past (but test own) + awarded past own
awarded_split [] test own h = refl
awarded_split (f ∷ past) test own h =
    both (awarded_in test f.key.school f.what) (awarded_in (but test own) f.key.school f.what) (awarded_in own f.key.school f.what)
    (awarded past test) (awarded past (but test own)) (awarded past own)
    (awarded_in_split f.what f.key.school test own h) (awarded_split past test own h)

released_split : (past : List WorkFiling) (test own : Place → Bool) → IsPart own test → released past test ≡ released past (but test own) + released past own
released_split [] test own h = refl
released_split (f ∷ past) test own h =
    both (released_in test f.key.school f.what) (released_in (but test own) f.key.school f.what) (released_in own f.key.school f.what)
    (released past test) (released past (but test own)) (released past own)
    (released_in_split f.what f.key.school test own h) (released_split past test own h)

-- ---- a student's place
-- it is the only place that passes its test
pub one_place : (school year student : ℕ) (p : Place) → of_student school year student p ≡ true → p ≡ place_at school year student
one_place school year student p h =
    let s = and_parts (p.student == student) ((p.school == school) && (p.year == year)) h in
    let t = and_parts (p.school == school) (p.year == year) s.1 in
    let student_is : p.student ≡ student = eqb-true p.student student s.0 in
    let school_is : p.school ≡ school = eqb-true p.school school t.0 in
    let year_is : p.year ≡ year = eqb-true p.year year t.1 in
    λ i. record { school = school_is i; year = year_is i; student = student_is i }

own_is_part : (test : Place → Bool) (school year student : ℕ) → test (place_at school year student) ≡ true → IsPart (of_student school year student) test
own_is_part test school year student pass p own = subst (λ q. test q ≡ true) (sym (one_place school year student p own)) pass

-- ---- the theorem
abbrev pub IsCovered : List WorkFiling → Type 0
IsCovered past = (test : Place → Bool) → released past test ≤ awarded past test

still : (r a : ℕ) → r ≤ a → 0 + r ≤ 0 + a
still r a h = omega arith

more : (r a x : ℕ) → r ≤ a → 0 + r ≤ x + a
more r a x h = omega arith

-- with a release within its place's awards in force
cut : (n r r1 r2 a a1 a2 e : ℕ) → r ≡ r1 + r2 → a ≡ a1 + a2 → r1 ≤ a1 → r2 ≤ a2 → 100 * n ≤ 100 * (a2 - r2) - e → n + r ≤ 0 + a
cut n r r1 r2 a a1 a2 e d g h k m = omega arith

releases : (past : List WorkFiling) (key : Key) (a : DollarFacts) → IsCovered past → IsAllowed past key (Release a) → IsCovered (after past key (Release a))
releases past key a ih h test = go (test (place_at key.school a.year a.student)) refl
  where
    go : (b : Bool) → test (place_at key.school a.year a.student) ≡ b → released (after past key (Release a)) test ≤ awarded (after past key (Release a)) test
    go false e = subst (λ b. if_passes b a.dollars + released past test ≤ 0 + awarded past test) (sym e) (still (released past test) (awarded past test) (ih test))
    go true e =
        let own = of_student key.school a.year a.student in
        let part = own_is_part test key.school a.year a.student e in
        let rule = release_holds past key a h in
        let k : a.dollars + released past test ≤ 0 + awarded past test =
        cut a.dollars (released past test) (released past (but test own)) (released past own) (awarded past test) (awarded past (but test own)) (awarded past own)
        (earned past own) (released_split past test own part) (awarded_split past test own part) (ih (but test own)) (ih own) rule.1 in
        subst (λ b. if_passes b a.dollars + released past test ≤ 0 + awarded past test) (sym e) k

step : (past : List WorkFiling) (key : Key) (what : WorkWhat) → IsCovered past → IsAllowed past key what → IsCovered (after past key what)
step past key (Release a) ih h = releases past key a ih h
step past key (Award a) ih h = λ test. more (released past test) (awarded past test) (if_passes (test (place_at key.school a.year a.student)) a.dollars) (ih test)
step past key (Fund x) ih h = λ test. still (released past test) (awarded past test) (ih test)
step past key (Earn e) ih h = λ test. still (released past test) (awarded past test) (ih test)

pub covered : (past : List WorkFiling) → AreAllowed past → IsCovered past
covered [] h = λ test. zero-le
covered (f ∷ past) h = step past f.key f.what (covered past h.0) h.1
