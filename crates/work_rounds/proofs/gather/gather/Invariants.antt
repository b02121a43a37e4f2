use Rattle.work_rounds.proofs.Gathering.{IsTaken}
use Rattle.work_rounds.proofs.gather.gather.Given as goal

abbrev pub invariant-loop-before : goal.invariant-loop-before
invariant-loop-before l = IsTaken l.desk.list l.request l.fn.rows l.left l.before l.all
