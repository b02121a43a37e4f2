-- How a filing changes nets.
use Rattle.std.proofs.Common.{◌≡◌, ℕ, ◌+◌, ◌-◌, ◌≤◌, refl, arith, subst, cond, Bool, true, false, ◌&&◌, List, ◌∷◌, eqb-true}
use Rattle.std.specs.Prelude.{◌==◌}
use Rattle.std.proofs.lemmas.Bool.{and_parts}
use Rattle.aid_types.specs.declared.number.Key.{Key}
use Rattle.law_loans.specs.declared.filing.LoanAmount.{LoanAmount}
use Rattle.law_loans.specs.declared.filing.LoanFiling.{LoanFiling}
use Rattle.law_loans.specs.declared.filing.LoanWhat.{LoanWhat}
use Rattle.law_loans.specs.declared.filing.LoanWhat.TheVariants.{Lend}
use Rattle.law_loans.specs.Loans.{cancelled, cancelled_in, if_passes, in_all, in_year, is_sub, lent, lent_in, net, nets}
use Rattle.law_loans.specs.Rules.{with_loan}

-- a list with one filing more
abbrev pub after : List LoanFiling → Key → LoanWhat → List LoanFiling
after past key what = record { key = key; what = what } ∷ past

-- an amount that doesn't pass, and one that may
pub passes_none : (b : Bool) (n : ℕ) → b ≡ false → if_passes b n ≡ 0
passes_none true n e = cc
passes_none false n e = refl

fall : (x l y c : ℕ) → x ≡ 0 → (x + l) - (y + c) ≤ l - c
fall x l y c e = omega arith

-- a filing that lends nothing of a test raises no net of it
pub net_falls : (past : List LoanFiling) (key : Key) (what : LoanWhat) (test : LoanAmount → Bool) → lent_in test what ≡ 0 →
    net (after past key what) test ≤ net past test
net_falls past key what test e = fall (lent_in test what) (lent past test) (cancelled_in test what) (cancelled past test) e

rise : (b : Bool) (n l c : ℕ) → (if_passes b n + l) - (0 + c) ≤ (l - c) + n
rise true n l c = omega arith
rise false n l c = omega arith

-- a loan raises a net by no more than its cents
pub net_rises : (past : List LoanFiling) (key : Key) (a : LoanAmount) (test : LoanAmount → Bool) →
    net (after past key (Lend a)) test ≤ net past test + a.cents
net_rises past key a test = rise (test a) a.cents (lent past test) (cancelled past test)

-- and not at all where it doesn't pass
pub net_stays : (past : List LoanFiling) (key : Key) (a : LoanAmount) (test : LoanAmount → Bool) → test a ≡ false →
    net (after past key (Lend a)) test ≤ net past test
net_stays past key a test e = net_falls past key (Lend a) test (passes_none (test a) a.cents e)

-- the tests of a student's year, and of all years, on an amount of another student, year or program
no_third : (x y z : Bool) → z ≡ false → (x && (y && z)) ≡ false
no_third true true z e = e
no_third true false z e = refl
no_third false y z e = refl

no_second : (x z : Bool) → z ≡ false → (x && z) ≡ false
no_second true z e = e
no_second false z e = refl

no_two : (x y z : Bool) → (x && y) ≡ false → (x && (y && z)) ≡ false
no_two true true z e = cc
no_two true false z e = refl
no_two false y z e = refl

no_first : (x z : Bool) → x ≡ false → (x && z) ≡ false
no_first true z e = cc
no_first false z e = refl

flipped : (b : Bool) → b ≡ true → cond b false true ≡ false
flipped true e = refl
flipped false e = cc

pub other_year : (a : LoanAmount) (student year : ℕ) (sub : Bool) → ((a.student == student) && (a.year == year)) ≡ false → in_year student year sub a ≡ false
other_year a student year true e = no_two (a.student == student) (a.year == year) (is_sub a.program) e
other_year a student year false e = no_two (a.student == student) (a.year == year) (cond (is_sub a.program) false true) e

pub other_student : (a : LoanAmount) (student : ℕ) (sub : Bool) → (a.student == student) ≡ false → in_all student sub a ≡ false
other_student a student true e = no_first (a.student == student) (is_sub a.program) e
other_student a student false e = no_first (a.student == student) (cond (is_sub a.program) false true) e

-- the nets after a loan are at most those with it
pub year_with_loan : (past : List LoanFiling) (key : Key) (a : LoanAmount) (student year : ℕ) (sub : Bool) → is_sub a.program ≡ sub →
    (net (after past key (Lend a)) (in_year student year true) ≤ (with_loan (nets past student year) sub a.cents).sub)
    × (net (after past key (Lend a)) (in_year student year false) ≤ (with_loan (nets past student year) sub a.cents).unsub)
year_with_loan past key a student year true e = (
  net_rises past key a (in_year student year true),
  net_stays past key a (in_year student year false) (no_third (a.student == student) (a.year == year) (cond (is_sub a.program) false true) (flipped (is_sub a.program) e)),
)
year_with_loan past key a student year false e = (
  net_stays past key a (in_year student year true) (no_third (a.student == student) (a.year == year) (is_sub a.program) e),
  net_rises past key a (in_year student year false),
)

pub all_with_loan : (past : List LoanFiling) (key : Key) (a : LoanAmount) (student year : ℕ) (sub : Bool) → is_sub a.program ≡ sub →
    (net (after past key (Lend a)) (in_all student true) ≤ (with_loan (nets past student year) sub a.cents).sub_all)
    × (net (after past key (Lend a)) (in_all student false) ≤ (with_loan (nets past student year) sub a.cents).unsub_all)
all_with_loan past key a student year true e = (
  net_rises past key a (in_all student true),
  net_stays past key a (in_all student false) (no_second (a.student == student) (cond (is_sub a.program) false true) (flipped (is_sub a.program) e)),
)
all_with_loan past key a student year false e = (
  net_stays past key a (in_all student true) (no_second (a.student == student) (is_sub a.program) e),
  net_rises past key a (in_all student false),
)

-- what holds of an amount's own student and year holds of those that it passes for
pub of_own_year : (P : ℕ → ℕ → Type 0) (own_student own_year student year : ℕ) → ((own_student == student) && (own_year == year)) ≡ true →
    P own_student own_year → P student year
of_own_year P own_student own_year student year e h =
    let both = and_parts (own_student == student) (own_year == year) e in
    subst (λ y. P student y) (eqb-true own_year year both.1) (subst (λ s. P s own_year) (eqb-true own_student student both.0) h)

pub of_own : (P : ℕ → Type 0) (own student : ℕ) → (own == student) ≡ true → P own → P student
of_own P own student e h = subst P (eqb-true own student e) h
