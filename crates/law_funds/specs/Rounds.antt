-- A round of awards. What a call of the policy may give is a relation of need, index, intensity and answer.
use Rattle.std.specs.Prelude.{◌≡◌, ℕ, ◌-◌, min, nat_lt, ℤ, List, [], ◌∷◌, if◌then◌else◌}
use Rattle.law_funds.specs.Answers.{IsAnswer}
use Rattle.law_funds.specs.declared.candidate.Candidate.{Candidate}

-- what is awarded where the policy answers so much: nothing of a fund with less than 100 dollars left, else no more than is left
abbrev pub cut : ℕ → ℕ → ℕ
cut left answer = if nat_lt left 100 then 0 else min answer left

-- a candidate's award: a call of the policy on the candidate may give an answer that is cut to it
abbrev pub IsAward : (ℕ → ℤ → ℕ → ℕ → Type 0) → ℕ → Candidate → ℕ → Type 0
IsAward gives left c award = (answer : ℕ) × gives c.need c.sai c.intensity answer × (award ≡ cut left answer)

-- the awards of candidates in their order, each of what those before it left, and what all of them leave
abbrev pub IsRound : (ℕ → ℤ → ℕ → ℕ → Type 0) → ℕ → List Candidate → List ℕ → ℕ → Type 0
IsRound gives fund [] awards left = (awards ≡ []) × (left ≡ fund)
IsRound gives fund (c ∷ cs) awards left =
    (award : ℕ) × (rest : List ℕ) × (awards ≡ award ∷ rest) × IsAward gives fund c award × IsRound gives (fund - award) cs rest left

-- each award is one that a policy may answer its candidate, none at all or 100 to 4,000 dollars and at most the need
abbrev pub AreWithinNeeds : List Candidate → List ℕ → Type 0
AreWithinNeeds [] awards = awards ≡ []
AreWithinNeeds (c ∷ cs) awards = (award : ℕ) × (rest : List ℕ) × (awards ≡ award ∷ rest) × IsAnswer c.need award × AreWithinNeeds cs rest
