use Rattle.std.proofs.Common.{◌-◌}
use Rattle.format_table.proofs.LayoutLemmas.{no_rows}
use Rattle.format_table.proofs.layout.CountedRows.advance.Goals as goal

pub invariant_of-self : goal.invariant_of-self
invariant_of-self c = λ e. no_rows (c.self.inside.left - 1) c.self.inside.later.now e
