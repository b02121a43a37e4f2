use Rattle.std.proofs.Common.{List, [], subst, sym, arith}
use Rattle.std.specs.List.Sorted.{IsStrictlySortedBy}
use Rattle.sorted_rows.specs.Places.{AreApart}
use Rattle.sorted_rows.proofs.Apart.{no_tail}
use Rattle.sorted_rows.proofs.table.Table.new.Goals as goal

pub invariant_of-result : goal.invariant_of-result
unfolding IsStrictlySortedBy
invariant_of-result g c = (
  subst (λ (tail : List (g.row.K.Denot × g.row.V.Denot)). AreApart g.K.Ord.cmp tail c.new.result.items) (sym c.new-2.ensures.items)
      (subst (λ (main : List (g.row.K.Denot × g.row.V.Denot)). AreApart g.K.Ord.cmp [] main) (sym c.new.ensures.items) (no_tail g.met.K.Ord.total [] tt)),
  omega arith,
  omega arith,
  λ some. absurd (omega arith),
)
