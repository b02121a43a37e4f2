use Rattle.std.proofs.Common.{◌≡◌, ◌+◌, ◌*◌, ◌≤◌, drop, length}
use Rattle.std.specs.Prelude.{sum}
use Rattle.work_rounds.proofs.Awarding.{AreSoFar}
use Rattle.work_rounds.proofs.awards.awards.Given as goal

-- each filing took a number and at least 100 dollars
abbrev pub invariant-loop-index : goal.invariant-loop-index
invariant-loop-index l =
    record {
      so_far : AreSoFar l.request l.candidates l.awards l.index l.number l.filings.items;
      count : l.request.number + length l.filings.items ≡ l.number;
      spent : 100 * l.number + sum (drop l.index l.awards) ≤ 100 * l.request.number + sum l.awards;
    }
