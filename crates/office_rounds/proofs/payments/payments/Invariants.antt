use Rattle.std.proofs.Common.{◌+◌, ◌≤◌, length}
use Rattle.office_rounds.proofs.Paying.{ArePaidSoFar}
use Rattle.office_rounds.proofs.payments.payments.Given as goal

abbrev pub invariant-loop-index : goal.invariant-loop-index
invariant-loop-index l =
    ArePaidSoFar l.request l.candidates l.awards l.index l.number l.filings.items × (length l.filings.items ≤ l.index)
    × (l.request.number ≤ l.number) × (l.number ≤ l.request.number + l.index)
