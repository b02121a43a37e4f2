-- What a round pays is what its awards sum to.
use Rattle.std.proofs.Common.{◌≡◌, ◌≢◌, ℕ, zero, suc, ◌+◌, ◌-◌, ◌*◌, ◌/◌, ◌<◌, ◌≤◌, ℤ, refl, subst, ap, ◌∙◌, arith, true, List, [], ◌∷◌, length, eq-eqb}
use Rattle.std.specs.Prelude.{sum}
use Rattle.std.proofs.lemmas.List.Sums.{sum_by-cons}
use Rattle.aid_filings.specs.declared.filing.Filing.{Filing}
use Rattle.aid_filings.specs.declared.filing.What.{What}
use Rattle.law_funds.specs.Rounds.{IsRound}
use Rattle.law_funds.specs.declared.candidate.Candidate.{Candidate}
use Rattle.law_funds.proofs.Rounded.{round-count, round-whole}
use Rattle.office_history.specs.Net.{cell_of, onto, paid, payments_in}
use Rattle.office_rounds.specs.Candidates.{AreCandidates}
use Rattle.office_rounds.specs.Fund.{granted, in_fund, rest_of_fund}
use Rattle.office_rounds.specs.Payments.{ArePayments, IsPayment}
use Rattle.office_rounds.specs.Planned.{IsPlanned}
use Rattle.office_rounds.specs.declared.request.RoundRequest.{RoundRequest}

-- a plan from its parts, whose lists are the same in each
pub planned : (gives : ℕ → ℤ → ℕ → ℕ → Type 0) (past : List Filing) (r : RoundRequest) (cs ds es : List Candidate) (awards paying : List ℕ) (fs : List Filing) (rest left : ℕ)
    → AreCandidates past r cs → rest ≡ rest_of_fund past r → ds ≡ cs → IsRound gives rest ds awards left → es ≡ cs → paying ≡ awards → ArePayments r r.number es paying fs → IsPlanned gives past r fs left
planned gives past r cs ds es awards paying fs rest left all whole one round two same payments = record {
  candidates = cs;
  awards = awards;
  are_candidates = all;
  round = subst (λ (n : ℕ). IsRound gives n cs awards left) whole (subst (λ (l : List Candidate). IsRound gives rest l awards left) one round);
  payments = subst (λ (ns : List ℕ). ArePayments r r.number cs ns fs) same (subst (λ (l : List Candidate). ArePayments r r.number l paying fs) two payments);
}

-- a payment pays its award from the fund
pays : (r : RoundRequest) (number student award : ℕ) (f : Filing) (fs : List Filing) → IsPayment r number student award f → paid (f ∷ fs) (in_fund r) ≡ 100 * award + paid fs (in_fund r)
pays r number student award f fs p =
    ap (λ (what : What). onto (in_fund r) (payments_in f.key what) (paid fs (in_fund r))) p.what
    ∙ rw (p.cents, inside) refl
  where
    inside : in_fund r (cell_of f.key p.amount) ≡ true
    inside = rw (eq-eqb f.key.school r.school p.school, eq-eqb p.amount.year r.year p.year, eq-eqb p.amount.term r.term p.term, p.program) refl

sum-cons : (n : ℕ) (ns : List ℕ) → sum (n ∷ ns) ≡ n + sum ns
sum-cons n ns = sum_by-cons (λ x. x) n ns

-- all payments pay all awards
pay_sum : (r : RoundRequest) (number : ℕ) (cs : List Candidate) (awards : List ℕ) (fs : List Filing) → length awards ≡ length cs → ArePayments r number cs awards fs → paid fs (in_fund r) ≡ 100 * sum awards
pay_sum r number [] [] fs same h = ap (λ (l : List Filing). paid l (in_fund r)) h
pay_sum r number [] (n ∷ awards) fs same h = absurd (omega arith)
pay_sum r number (c ∷ cs) [] fs same h = absurd (omega arith)
pay_sum r number (c ∷ cs) (zero ∷ awards) fs same h = omega (arith, pay_sum r number cs awards fs (omega arith) h, sum-cons 0 awards)
pay_sum r number (c ∷ cs) (suc n ∷ awards) fs same (f, rest, is, one, later) =
    let whole : paid fs (in_fund r) ≡ 100 * suc n + paid rest (in_fund r) = ap (λ (l : List Filing). paid l (in_fund r)) is ∙ pays r number c.student (suc n) f rest one in
    omega (arith, whole, pay_sum r (number + 1) cs awards rest (omega arith) later, sum-cons (suc n) awards)

-- what is paid and what is left are what was left of the fund
pub planned_whole : (gives : ℕ → ℤ → ℕ → ℕ → Type 0) (past : List Filing) (r : RoundRequest) (fs : List Filing) (left : ℕ) → IsPlanned gives past r fs left
    → paid fs (in_fund r) + 100 * left ≡ 100 * rest_of_fund past r
planned_whole gives past r fs left p =
    let count = round-count gives (rest_of_fund past r) p.candidates p.awards left p.round in
    let all = round-whole gives (rest_of_fund past r) p.candidates p.awards left p.round in
    omega (arith, pay_sum r r.number p.candidates p.awards fs count p.payments, all)

-- something is paid where there is a payment
paid_some : (r : RoundRequest) (number : ℕ) (cs : List Candidate) (awards : List ℕ) (fs : List Filing) → ArePayments r number cs awards fs → fs ≢ [] → 0 < paid fs (in_fund r)
paid_some r number [] awards fs h some = absurd (some h)
paid_some r number (c ∷ cs) [] fs h some = absurd (some h)
paid_some r number (c ∷ cs) (zero ∷ awards) fs h some = paid_some r number cs awards fs h some
paid_some r number (c ∷ cs) (suc n ∷ awards) fs (f, rest, is, one, later) some =
    let whole : paid fs (in_fund r) ≡ 100 * suc n + paid rest (in_fund r) = ap (λ (l : List Filing). paid l (in_fund r)) is ∙ pays r number c.student (suc n) f rest one in
    omega (arith, whole)

within : (amount cents spent left : ℕ) → spent + 100 * left ≡ 100 * (amount - (cents + 99) / 100) → 0 < spent → cents + spent ≤ 100 * amount
within amount cents spent left whole some = omega arith

-- so a round stays within the amount of the fund
pub planned_within : (gives : ℕ → ℤ → ℕ → ℕ → Type 0) (past : List Filing) (r : RoundRequest) (fs : List Filing) (left : ℕ) → IsPlanned gives past r fs left
    → fs ≢ [] → granted past r + paid fs (in_fund r) ≤ 100 * r.amount
planned_within gives past r fs left p some =
    within r.amount (granted past r) (paid fs (in_fund r)) left (planned_whole gives past r fs left p) (paid_some r r.number p.candidates p.awards fs p.payments some)
