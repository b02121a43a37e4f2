use Rattle.std.proofs.Common.{refl, lit≤, lit<}
use Rattle.format_kinds.specs.Book.{size_numbers}
use Rattle.format_kinds.proofs.Amounts.{amounts_behind, fewer_amounts, poverty_amounts}
use Rattle.format_kinds.proofs.Chain.{length-size_numbers}
use Rattle.format_kinds.proofs.book_parts.poverty.Goals as goal

pub by_size-contiguous-requires : goal.by_size-contiguous-requires
by_size-contiguous-requires c = (lit< tt, fewer_amounts 9 27 c.args.section.now (lit≤ tt) (poverty_amounts c.args.section.now c.requires))

pub by_size-alaska-requires : goal.by_size-alaska-requires
by_size-alaska-requires c = (lit< tt, fewer_amounts 9 18 c.by_size-contiguous.new.section (lit≤ tt) (amounts_behind 9 18 27 c.args.section.now (size_numbers c.by_size-contiguous.result) c.by_size-contiguous.new.section c.by_size-contiguous.ensures (length-size_numbers c.by_size-contiguous.result) refl (poverty_amounts c.args.section.now c.requires)))

pub by_size-hawaii-requires : goal.by_size-hawaii-requires
by_size-hawaii-requires c = (lit< tt, fewer_amounts 9 9 c.by_size-alaska.new.section (lit≤ tt) (amounts_behind 9 9 18 c.by_size-contiguous.new.section (size_numbers c.by_size-alaska.result) c.by_size-alaska.new.section c.by_size-alaska.ensures (length-size_numbers c.by_size-alaska.result) refl (amounts_behind 9 18 27 c.args.section.now (size_numbers c.by_size-contiguous.result) c.by_size-contiguous.new.section c.by_size-contiguous.ensures (length-size_numbers c.by_size-contiguous.result) refl (poverty_amounts c.args.section.now c.requires))))
