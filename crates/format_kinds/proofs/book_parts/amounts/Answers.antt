use Rattle.std.proofs.Common.{subst}
use Rattle.format_kinds.specs.Sections.{AreAmounts}
use Rattle.format_kinds.proofs.Amounts.{first_amounts}
use Rattle.format_kinds.proofs.book_parts.amounts.Goals as goal

pub returns-clause-in_range : goal.returns-clause-in_range
returns-clause-in_range c =
    first_amounts 3 c.take.result c.take.new.self c.take.ensures.count (subst (AreAmounts 3) c.take.ensures.numbers c.requires)
