-- What a round files. Own.
use Rattle.std.specs.Prelude.{◌≡◌, ℕ, zero, suc, ◌+◌, ◌++◌, ℤ, List, [], ◌∷◌, codes, decimal, Some, Result, Ok, ◌↔◌}
use Rattle.std.specs.List.{Contains, find}
use Rattle.format_rows.specs.Lines.{error_line}
use Rattle.format_rows.specs.declared.error.RowError.{RowError}
use Rattle.law_funds.specs.Order.{IsInOrder}
use Rattle.law_funds.specs.Rounds.{IsRound}
use Rattle.law_funds.specs.declared.candidate.Candidate.{Candidate}
use Rattle.log_machine.specs.Texts.{Texts}
use Rattle.log_rules.specs.Lines.{line_of}
use Rattle.log_rules.specs.declared.response.RuleResponse.{RuleResponse}
use Rattle.work_rounds.specs.Rows.{is_of, round_lines, round_rows, said_of_candidate}
use Rattle.work_rounds.specs.Words.{policy_of}
use Rattle.work_rounds.specs.declared.rows.RoundSaid.{RoundSaid}
use Rattle.work_rounds.specs.declared.words.RoundRequest.{RoundRequest}
use Rattle.law_work.specs.declared.filing.DollarFacts.{DollarFacts}
use Rattle.law_work.specs.declared.filing.WorkFiling.{WorkFiling}
use Rattle.law_work.specs.declared.filing.WorkWhat.TheVariants.{Award}
use Rattle.law_work.specs.Funds.{award_at, rest}
use Rattle.law_work.specs.declared.facts.WorkOutcome.{WorkOutcome}
use Rattle.work_study.specs.Outcomes.{work_text}

-- a candidate is what the first row of a student says who has no award of the school in the year
pub record IsCandidate (past : List WorkFiling) (r : RoundRequest) (rows : List (Result RoundSaid RowError)) (c : Candidate) : Type 0 where
  pub first : find (is_of c.student) rows ≡ Some (Ok (said_of_candidate c))
  pub unawarded : award_at past r.school r.year c.student ≡ 0

-- exactly the candidates, those with the lowest index first (own, as 34 CFR 676.10 has it of grants), of one index by the student's number
abbrev pub AreCandidates : List WorkFiling → RoundRequest → List (Result RoundSaid RowError) → List Candidate → Type 0
AreCandidates past r rows cs = IsInOrder cs × ((c : Candidate) → Contains cs c ↔ IsCandidate past r rows c)

-- a filing is the award of so many dollars to a student under a number of the school
pub record IsAwarded (r : RoundRequest) (next to dollars : ℕ) (f : WorkFiling) : Type 0 where
  pub facts : DollarFacts
  pub what : f.what ≡ Award facts
  pub school : f.key.school ≡ r.school
  pub number : f.key.number ≡ next
  pub student : facts.student ≡ to
  pub year : facts.year ≡ r.year
  pub amount : facts.dollars ≡ dollars

-- of candidates with their awards: a filing for each award above 0, under the numbers from one on
abbrev pub AreAwarded : RoundRequest → ℕ → List Candidate → List ℕ → List WorkFiling → Type 0
AreAwarded r number (c ∷ cs) (zero ∷ awards) filings = AreAwarded r number cs awards filings
AreAwarded r number (c ∷ cs) (suc more ∷ awards) filings =
    (f : WorkFiling) × (others : List WorkFiling) × (filings ≡ f ∷ others) × IsAwarded r number c.student (suc more) f × AreAwarded r (number + 1) cs awards others
AreAwarded r number [] awards filings = filings ≡ []
AreAwarded r number (c ∷ cs) [] filings = filings ≡ []

-- the last line: what is left of the fund in whole dollars
abbrev pub left_line : ℕ → List ℕ
left_line left = codes "left " ++ decimal left ++ codes "\n"

-- A round by what a call of a policy may give, of the rows that a text has: the lines of those that are none, the awards that are
-- filed, out of what is left of the fund, and the last line.
pub record IsPlanned (gives : ℕ → ℤ → ℕ → ℕ → Type 0) (r : RoundRequest) (text : List ℕ) (past : List WorkFiling) (heading : List ℕ) (filings : List WorkFiling) (closing : List ℕ) : Type 0 where
  pub candidates : List Candidate
  pub awards : List ℕ
  pub left : ℕ
  pub lines : heading ≡ round_lines [] (round_rows text)
  pub are_candidates : AreCandidates past r (round_rows text) candidates
  pub round : IsRound gives (rest past r.school r.year) candidates awards left
  pub awarded : AreAwarded r r.number candidates awards filings
  pub last : closing ≡ left_line left

-- what may be planned from a text on a list of filings
abbrev pub round_plans : (ℕ → ℤ → ℕ → ℕ → Type 0) → RoundRequest → List ℕ → List WorkFiling → List ℕ → List WorkFiling → List ℕ → Type 0
round_plans gives r text past heading filings closing = IsPlanned gives r text past heading filings closing

-- what a call of the policy of a school may give
abbrev pub policies_give : {Policy : Type 0} → List (ℕ × Policy) → (Policy → ℕ → ℤ → ℕ → ℕ → Type 0) → ℕ → ℕ → ℤ → ℕ → ℕ → Type 0
policies_give {Policy} policies gives school need sai intensity award = (policy : Policy) × (policy_of policies school ≡ Some policy) × gives policy need sai intensity award

-- the rows of a round say themselves, and each has the line of its answer
abbrev pub round_texts : Texts WorkFiling (RuleResponse WorkOutcome) RowError
round_texts = record { Meaning = Result WorkFiling RowError; said = λ row. row; answer_line = line_of work_text; error_line = error_line }
