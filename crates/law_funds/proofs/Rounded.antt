-- What a round comes to.
use Rattle.std.proofs.Common.{◌≡◌, ℕ, ◌+◌, ◌-◌, ◌<◌, ◌≤◌, ℤ, List, [], ◌∷◌, ◌++◌, length, drop, get_or, drop-cons, refl, sym, ◌∙◌, ap, subst, suc, arith, add-one, append_assoc, append-nil}
use Rattle.std.specs.Prelude.{sum}
use Rattle.std.proofs.lemmas.List.Sums.{sum_by-cons}
use Rattle.law_funds.specs.Answers.{IsAsked, IsAnswer}
use Rattle.law_funds.specs.Rounds.{cut, IsAward, IsRound, AreWithinNeeds}
use Rattle.law_funds.specs.declared.candidate.Candidate.{Candidate}

-- a policy's answers are within the need
abbrev pub AreAnswers : (ℕ → ℤ → ℕ → ℕ → Type 0) → Type 0
AreAnswers gives = (need : ℕ) (sai : ℤ) (intensity award : ℕ) → IsAsked need sai intensity → gives need sai intensity award → IsAnswer need award

-- no award is more than is left
cut-le : (left answer : ℕ) → cut left answer ≤ left
cut-le left answer = grind arith

-- an answer that is cut to what is left is still one
cut-answer : (left need answer : ℕ) → IsAnswer need answer → IsAnswer need (cut left answer)
cut-answer left need answer h = grind arith

sum-cons : (n : ℕ) (ns : List ℕ) → sum (n ∷ ns) ≡ n + sum ns
sum-cons n ns = sum_by-cons (λ x. x) n ns

-- one award for each candidate
pub round-count : (gives : ℕ → ℤ → ℕ → ℕ → Type 0) (fund : ℕ) (cs : List Candidate) (awards : List ℕ) (left : ℕ) →
    IsRound gives fund cs awards left → length awards ≡ length cs
round-count gives fund [] awards left h = ap length h.0
round-count gives fund (c ∷ cs) awards left h = ap length h.2 ∙ ap suc (round-count gives (fund - h.0) cs h.1 left h.4)

-- the awards and what is left sum to the fund
pub round-whole : (gives : ℕ → ℤ → ℕ → ℕ → Type 0) (fund : ℕ) (cs : List Candidate) (awards : List ℕ) (left : ℕ) →
    IsRound gives fund cs awards left → sum awards + left ≡ fund
round-whole gives fund [] awards left h = omega (arith, ap sum h.0, h.1)
round-whole gives fund (c ∷ cs) awards left h =
    let later = round-whole gives (fund - h.0) cs h.1 left h.4 in
    let most = cut-le fund h.3.0 in
    omega (arith, ap sum h.2, sum-cons h.0 h.1, later, most, h.3.2)

-- each award is within its candidate's need
pub round-within : (gives : ℕ → ℤ → ℕ → ℕ → Type 0) → AreAnswers gives → (fund : ℕ) (cs : List Candidate) (awards : List ℕ) (left : ℕ) →
    IsRound gives fund cs awards left → AreWithinNeeds cs awards
round-within gives met fund [] awards left h = h.0
round-within gives met fund (c ∷ cs) awards left h =
    let answer = met c.need c.sai c.intensity h.3.0 c.in_range h.3.1 in
    let award = subst (IsAnswer c.need) (sym h.3.2) (cut-answer fund c.need h.3.0 answer) in
    (h.0, h.1, h.2, award, round-within gives met (fund - h.0) cs h.1 left h.4)

-- a round of all candidates is the whole where nobody is awarded yet
pub round-begin : (gives : ℕ → ℤ → ℕ → ℕ → Type 0) (fund : ℕ) (cs : List Candidate) (awards : List ℕ) → awards ≡ [] →
    (rest : List ℕ) (last : ℕ) → IsRound gives fund (drop 0 cs) rest last → IsRound gives fund cs (awards ++ rest) last
round-begin gives fund cs awards none rest last all = subst (λ before. IsRound gives fund cs (before ++ rest) last) (sym none) all

-- one award more before a round of the others
pub round-step : (gives : ℕ → ℤ → ℕ → ℕ → Type 0) (fund : ℕ) (cs : List Candidate) (left i : ℕ) (awards more : List ℕ) (c : Candidate) (award : ℕ) →
    i < length cs → c ≡ get_or cs i c → more ≡ awards ++ award ∷ [] →
    ((rest : List ℕ) (last : ℕ) → IsRound gives left (drop i cs) rest last → IsRound gives fund cs (awards ++ rest) last) → IsAward gives left c award →
    (rest : List ℕ) (last : ℕ) → IsRound gives (left - award) (drop (i + 1) cs) rest last → IsRound gives fund cs (more ++ rest) last
round-step gives fund cs left i awards more c award lt here one so_far made rest last later =
    let there : drop i cs ≡ c ∷ drop (i + 1) cs = rw (drop-cons cs i c lt, add-one i) (ap (λ d. d ∷ drop (suc i) cs) (sym here)) in
    let next : IsRound gives left (drop i cs) (award ∷ rest) last =
    subst (λ others. IsRound gives left others (award ∷ rest) last) (sym there) (award, rest, refl, made, later) in
    subst (λ all. IsRound gives fund cs all last) (sym (ap (λ all. all ++ rest) one ∙ append_assoc awards (award ∷ []) rest)) (so_far (award ∷ rest) last next)

-- where no candidate is left, the round so far is the whole
pub round-end : (gives : ℕ → ℤ → ℕ → ℕ → Type 0) (fund : ℕ) (cs : List Candidate) (left : ℕ) (others : List Candidate) (awards : List ℕ) → others ≡ [] →
    ((rest : List ℕ) (last : ℕ) → IsRound gives left others rest last → IsRound gives fund cs (awards ++ rest) last) → IsRound gives fund cs awards left
round-end gives fund cs left others awards none so_far =
    subst (λ all. IsRound gives fund cs all left) (append-nil awards) (so_far [] left (subst (λ os. IsRound gives left os [] left) (sym none) (refl, refl)))
