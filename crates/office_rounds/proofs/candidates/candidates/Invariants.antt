use Rattle.office_rounds.proofs.Gathered.{IsGathered}
use Rattle.office_rounds.proofs.candidates.candidates.Given as goal

abbrev pub invariant-loop-filing : goal.invariant-loop-filing
invariant-loop-filing l = IsGathered l.office.history l.request l.filing-items l.filing-index l.candidates.items
