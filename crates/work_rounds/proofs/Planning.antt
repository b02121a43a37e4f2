-- A plan from its parts, whose lists are the same in each.
use Rattle.std.proofs.Common.{◌≡◌, ℕ, ℤ, List, [], Result, sym, subst, ◌∙◌, ap}
use Rattle.format_rows.specs.declared.error.RowError.{RowError}
use Rattle.law_funds.specs.Rounds.{IsRound}
use Rattle.law_funds.specs.declared.candidate.Candidate.{Candidate}
use Rattle.work_rounds.specs.Gathered.{IsGathered}
use Rattle.work_rounds.specs.Plans.{AreAwarded, AreCandidates, IsPlanned, left_line}
use Rattle.work_rounds.specs.Rows.{round_lines, round_rows}
use Rattle.work_rounds.specs.declared.gather.Gathered.{Gathered}
use Rattle.work_rounds.specs.declared.rows.RoundSaid.{RoundSaid}
use Rattle.work_rounds.specs.declared.words.RoundRequest.{RoundRequest}
use Rattle.law_work.specs.declared.filing.WorkFiling.{WorkFiling}
use Rattle.law_work.specs.Funds.{rest}

pub planned : (gives : ℕ → ℤ → ℕ → ℕ → Type 0) (r : RoundRequest) (text : List ℕ) (past : List WorkFiling) (rows : List (Result RoundSaid RowError)) (g : Gathered) (cs ds es : List Candidate) (awards given : List ℕ) (fs left_filings : List WorkFiling) (whole left : ℕ) (closing : List ℕ)
    → rows ≡ round_rows text → IsGathered past r rows g → AreCandidates past r rows cs → whole ≡ rest past r.school r.year → ds ≡ cs → IsRound gives whole ds awards left → es ≡ cs → given ≡ awards
    → AreAwarded r r.number es given fs → left_filings ≡ fs → closing ≡ left_line left → IsPlanned gives r text past g.heading.items left_filings closing
planned gives r text past rows g cs ds es awards given fs left_filings whole left closing are all candidates amount one round two same filed taken last = record {
  candidates = cs;
  awards = awards;
  left = left;
  lines = all.lines ∙ ap (λ (l : List (Result RoundSaid RowError)). round_lines [] l) are;
  are_candidates = subst (λ (l : List (Result RoundSaid RowError)). AreCandidates past r l cs) are candidates;
  round = subst (λ (n : ℕ). IsRound gives n cs awards left) amount (subst (λ (l : List Candidate). IsRound gives whole l awards left) one round);
  awarded = subst (λ (l : List WorkFiling). AreAwarded r r.number cs awards l) (sym taken) (subst (λ (ns : List ℕ). AreAwarded r r.number cs ns fs) same (subst (λ (l : List Candidate). AreAwarded r r.number l given fs) two filed));
  last = last;
}
