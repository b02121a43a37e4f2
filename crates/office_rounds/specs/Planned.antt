-- What a round files and what it leaves. What a call of the policy may give is a relation of need, index, intensity and answer.
use Rattle.std.specs.Prelude.{ℕ, ℤ, List}
use Rattle.aid_filings.specs.declared.filing.Filing.{Filing}
use Rattle.law_funds.specs.Rounds.{IsRound}
use Rattle.law_funds.specs.declared.candidate.Candidate.{Candidate}
use Rattle.office_rounds.specs.Candidates.{AreCandidates}
use Rattle.office_rounds.specs.Fund.{rest_of_fund}
use Rattle.office_rounds.specs.Payments.{ArePayments}
use Rattle.office_rounds.specs.declared.request.RoundRequest.{RoundRequest}

-- a round of the candidates on what is left of the fund, and the payments of its awards, under the numbers from the request's on (HEA
-- 413C(c); 34 CFR 676.10, 676.20)
pub record IsPlanned (gives : ℕ → ℤ → ℕ → ℕ → Type 0) (past : List Filing) (r : RoundRequest) (filings : List Filing) (left : ℕ) : Type 0 where
  pub candidates : List Candidate
  pub awards : List ℕ
  pub are_candidates : AreCandidates past r candidates
  pub round : IsRound gives (rest_of_fund past r) candidates awards left
  pub payments : ArePayments r r.number candidates awards filings
