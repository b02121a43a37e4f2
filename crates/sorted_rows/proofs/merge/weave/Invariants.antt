use Rattle.sorted_rows.proofs.Woven.{IsWoven}
use Rattle.sorted_rows.proofs.merge.weave.Given as goal

abbrev pub invariant-loop-waiting : goal.invariant-loop-waiting
invariant-loop-waiting g l = IsWoven g.K.Ord.cmp l.tail l.fn.rows l.count l.rows l.left l.waiting l.place

abbrev pub decreases-loop-waiting : goal.decreases-loop-waiting
decreases-loop-waiting g l = l.place
