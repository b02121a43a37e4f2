-- What the first rows of a round come to.
use Rattle.std.specs.Prelude.{◌≡◌, ℕ, List, [], Result, ◌↔◌}
use Rattle.std.specs.BTreeSet.{contains}
use Rattle.std.specs.List.{Contains, list_any}
use Rattle.std.specs.Ordering.{nat_cmp}
use Rattle.format_rows.specs.declared.error.RowError.{RowError}
use Rattle.law_funds.specs.declared.candidate.Candidate.{Candidate}
use Rattle.work_rounds.specs.Plans.{IsCandidate}
use Rattle.work_rounds.specs.Rows.{is_of, round_lines}
use Rattle.work_rounds.specs.declared.gather.Gathered.{Gathered}
use Rattle.work_rounds.specs.declared.rows.RoundSaid.{RoundSaid}
use Rattle.work_rounds.specs.declared.words.RoundRequest.{RoundRequest}
use Rattle.law_work.specs.declared.filing.WorkFiling.{WorkFiling}

-- their lines, those who are candidates by them, and the students of those that were read
pub record IsGathered (past : List WorkFiling) (r : RoundRequest) (rows : List (Result RoundSaid RowError)) (g : Gathered) : Type 0 where
  pub lines : g.heading.items ≡ round_lines [] rows
  pub candidates : (c : Candidate) → Contains g.candidates.items c ↔ IsCandidate past r rows c
  pub students : (student : ℕ) → contains nat_cmp g.students student ≡ list_any (is_of student) rows
