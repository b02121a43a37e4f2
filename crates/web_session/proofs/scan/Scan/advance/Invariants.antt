use Rattle.std.proofs.Common.{◌≡◌, ◌+◌, ◌++◌, ℕ, List, length}
use Rattle.web_session.specs.Ends.{end_from, head_end}
use Rattle.web_session.proofs.scan.Scan.advance.Given as goal

abbrev pub invariant-loop-rest : goal.invariant-loop-rest
invariant-loop-rest l = record {
  goes_on : (more : List ℕ) → head_end (l.bytes ++ more) ≡ end_from l.self.state l.self.count (l.rest ++ more);
  size : l.self.count + length l.rest ≡ length l.bytes;
}

abbrev pub decreases-loop-rest : goal.decreases-loop-rest
decreases-loop-rest l = length l.rest
