use Rattle.std.proofs.Common.{List, subst, sym}
use Rattle.sorted_rows.specs.Places.{AreApart}
use Rattle.sorted_rows.proofs.Apart.{no_tail}
use Rattle.sorted_rows.proofs.merge.merge_long.Goals as goal

pub returns-then-is_long-clause-apart : goal.returns-then-is_long-clause-apart
returns-then-is_long-clause-apart g c =
    subst (λ (tail : List (g.row.K.Denot × g.row.V.Denot)). AreApart g.K.Ord.cmp tail c.merge.new.main.items) (sym c.merge.ensures.empty) (no_tail g.met.K.Ord.total c.merge.new.main.items c.merge.ensures.sorted)
