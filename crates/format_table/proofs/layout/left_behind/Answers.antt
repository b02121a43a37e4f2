use Rattle.std.proofs.Common.{refl, w64}
use Rattle.std.proofs.lemmas.Int.{to_z-of_z}
use Rattle.format_table.proofs.LayoutLemmas.{cut-parts}
use Rattle.format_table.proofs.layout.left_behind.Goals as goal

pub returns-else-number-gt1 : goal.returns-else-number-gt1
returns-else-number-gt1 c =
    let below = rw (to_z-of_z w64 c.args.number c.ranges.number) at c.if-number-gt1.false in
    rw c.saturating_sub.ensures (cut-parts c.args.part.now.ends c.args.number c.args.rest.now _ below refl)
