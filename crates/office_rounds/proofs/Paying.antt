-- The payments of the awards so far.
use Rattle.std.proofs.Common.{◌≡◌, ℕ, zero, suc, ◌+◌, ◌<◌, ◌≤◌, refl, sym, subst, ap, ◌∙◌, arith, List, [], ◌∷◌, ◌++◌, length, drop, get_or, drop-cons, add-one, append_assoc, append-nil}
use Rattle.law_funds.specs.Answers.{IsAnswer}
use Rattle.law_funds.specs.Rounds.{AreWithinNeeds}
use Rattle.law_funds.specs.declared.candidate.Candidate.{Candidate}
use Rattle.aid_filings.specs.declared.filing.Filing.{Filing}
use Rattle.office_rounds.specs.Payments.{ArePayments, IsPayment}
use Rattle.office_rounds.specs.declared.request.RoundRequest.{RoundRequest}

-- an award within its candidate's need is at most 4,000 dollars
pub award_most : (cs : List Candidate) (awards : List ℕ) → AreWithinNeeds cs awards → (i : ℕ) (award : ℕ) → i < length cs → award ≡ get_or awards i award → award ≤ 4000
award_most [] awards within i award lt at = absurd (omega arith)
award_most (c ∷ cs) awards within zero award lt at =
    let e : award ≡ within.0 = at ∙ ap (λ (l : List ℕ). get_or l 0 award) within.2 in
    subst (λ n. n ≤ 4000) (sym e) (most within.0 within.3)
  where
    most : (n : ℕ) → IsAnswer c.need n → n ≤ 4000
    most zero h = omega arith
    most (suc n) h = (h (omega arith)).0.1
award_most (c ∷ cs) awards within (suc i) award lt at =
    award_most cs within.1 within.4 i award (omega arith) (at ∙ ap (λ (l : List ℕ). get_or l (suc i) award) within.2)

-- whatever payments of the others follow, the whole are those of all
abbrev pub ArePaidSoFar : RoundRequest → List Candidate → List ℕ → ℕ → ℕ → List Filing → Type 0
ArePaidSoFar r cs awards i number filings =
    (rest : List Filing) → ArePayments r number (drop i cs) (drop i awards) rest → ArePayments r r.number cs awards (filings ++ rest)

pub pay_start : (r : RoundRequest) (cs : List Candidate) (awards : List ℕ) (filings : List Filing) → filings ≡ [] → ArePaidSoFar r cs awards 0 r.number filings
pay_start r cs awards filings none rest all = subst (λ before. ArePayments r r.number cs awards (before ++ rest)) (sym none) all

there : {X : Type 0} (xs : List X) (i : ℕ) (x : X) → i < length xs → x ≡ get_or xs i x → drop i xs ≡ x ∷ drop (i + 1) xs
there xs i x lt at = rw (drop-cons xs i x lt, add-one i) (ap (λ d. d ∷ drop (suc i) xs) (sym at))

-- an award of nothing
pub pay_none : (r : RoundRequest) (cs : List Candidate) (awards : List ℕ) (i number : ℕ) (filings : List Filing) (c : Candidate) (award : ℕ)
    → i < length cs → i < length awards → c ≡ get_or cs i c → award ≡ get_or awards i award → award ≡ 0
    → ArePaidSoFar r cs awards i number filings → ArePaidSoFar r cs awards (i + 1) number filings
pay_none r cs awards i number filings c award lt le here at none so_far rest all =
    so_far rest
    (subst (λ (ns : List ℕ). ArePayments r number (drop i cs) ns rest) (sym (there awards i 0 le (sym (subst (λ n. get_or awards i n ≡ n) none (sym at)))))
    (subst (λ (l : List Candidate). ArePayments r number l (0 ∷ drop (i + 1) awards) rest) (sym (there cs i c lt here)) all))

-- an award that is paid
pub pay_one : (r : RoundRequest) (cs : List Candidate) (awards : List ℕ) (i number : ℕ) (filings more : List Filing) (c : Candidate) (award : ℕ) (f : Filing)
    → i < length cs → i < length awards → c ≡ get_or cs i c → award ≡ get_or awards i award → 0 < award → more ≡ filings ++ f ∷ [] → IsPayment r number c.student award f
    → ArePaidSoFar r cs awards i number filings → ArePaidSoFar r cs awards (i + 1) (number + 1) more
pay_one r cs awards i number filings more c zero f lt le here at some one paid so_far rest all = absurd (omega arith)
pay_one r cs awards i number filings more c (suc n) f lt le here at some one paid so_far rest all =
    let next : ArePayments r number (drop i cs) (drop i awards) (f ∷ rest) =
    subst (λ (ns : List ℕ). ArePayments r number (drop i cs) ns (f ∷ rest)) (sym (there awards i (suc n) le at))
    (subst (λ (l : List Candidate). ArePayments r number l (suc n ∷ drop (i + 1) awards) (f ∷ rest)) (sym (there cs i c lt here))
    (f, rest, refl, paid, all)) in
    subst (λ (fs : List Filing). ArePayments r r.number cs awards fs) (sym (ap (λ (fs : List Filing). fs ++ rest) one ∙ append_assoc filings (f ∷ []) rest)) (so_far (f ∷ rest) next)

-- where no candidate is left, the payments so far are all
pub pay_end : (r : RoundRequest) (cs : List Candidate) (awards : List ℕ) (i number : ℕ) (filings : List Filing) → drop i cs ≡ [] → ArePaidSoFar r cs awards i number filings
    → ArePayments r r.number cs awards filings
pay_end r cs awards i number filings none so_far =
    subst (λ (fs : List Filing). ArePayments r r.number cs awards fs) (append-nil filings)
    (so_far [] (subst (λ (l : List Candidate). ArePayments r number l (drop i awards) []) (sym none) refl))
