use Rattle.std.proofs.Common.{◌≡◌, ◌*◌, ◌≤◌, take}
use Rattle.std.specs.List.{sum_by}
use Rattle.office_history.specs.Net.{net_at}
use Rattle.office_rounds.specs.Candidates.{fund_cell}
use Rattle.office_rounds.proofs.fund.granted.Given as goal

abbrev pub invariant-loop-student : goal.invariant-loop-student
invariant-loop-student l =
    (l.cents ≡ sum_by (λ student. net_at l.office.history (fund_cell l.request student)) (take l.student-index l.student-items))
    × (l.cents ≤ 99999999 * l.student-index)
