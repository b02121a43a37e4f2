use Rattle.std.proofs.Common.{◌+◌, ◌-◌, ◌*◌, ◌^◌, ◌≤◌, length}
use Rattle.sorted_rows.specs.Places.{IsAfterSmaller, IsBeforeGreater}
use Rattle.sorted_rows.proofs.Looks.{AreLooks}
use Rattle.sorted_rows.proofs.search.search.Given as goal

abbrev pub invariant-loop-low : goal.invariant-loop-low
invariant-loop-low g l = record {
  order : l.low ≤ l.high;
  within : l.high ≤ length l.rows;
  before : IsAfterSmaller g.K.Ord.cmp l.key l.rows l.low;
  after : IsBeforeGreater g.K.Ord.cmp l.key l.rows l.high;
  missed : length l.rows + 2 ≤ 2 ^ (l.steps - l.fn.steps) * (l.high - l.low + 2);
  later : l.fn.steps ≤ l.steps;
  lookups : AreLooks (length l.rows) (l.steps - l.fn.steps) (l.high - l.low);
}

abbrev pub decreases-loop-low : goal.decreases-loop-low
decreases-loop-low g l = l.high - l.low
