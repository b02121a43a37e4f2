use Rattle.std.proofs.Common.{length}
use Rattle.audit.proofs.Walk.{IsSoFar}
use Rattle.audit.proofs.auditor.judge_lines.Given as goal

abbrev pub invariant-loop-line : goal.invariant-loop-line
invariant-loop-line g l = IsSoFar g.L.AuditedList.most g.L.AuditedList.filings l.fn.text l.rest l.lines l.number

abbrev pub decreases-loop-line : goal.decreases-loop-line
decreases-loop-line g l = length l.rest
