use Rattle.std.proofs.Common.{refl, lit≤, lit<}
use Rattle.format_kinds.specs.Book.{size_numbers}
use Rattle.format_kinds.proofs.Amounts.{amounts_behind, fewer_amounts, protection_amounts}
use Rattle.format_kinds.proofs.Chain.{length-size_numbers}
use Rattle.format_kinds.proofs.book_parts.protection.Goals as goal

pub by_size-parents-requires : goal.by_size-parents-requires
by_size-parents-requires c = (lit< tt, fewer_amounts 6 21 c.args.section.now (lit≤ tt) (protection_amounts c.args.section.now c.requires))

pub amounts-requires : goal.amounts-requires
amounts-requires c = fewer_amounts 3 15 c.by_size-parents.new.section (lit≤ tt) (amounts_behind 6 15 21 c.args.section.now (size_numbers c.by_size-parents.result) c.by_size-parents.new.section c.by_size-parents.ensures (length-size_numbers c.by_size-parents.result) refl (protection_amounts c.args.section.now c.requires))

pub by_size-single_parent-requires : goal.by_size-single_parent-requires
by_size-single_parent-requires c = (lit< tt, fewer_amounts 6 12 c.amounts.new.section (lit≤ tt) (amounts_behind 3 12 15 c.by_size-parents.new.section c.amounts.result c.amounts.new.section c.amounts.ensures.numbers c.amounts.ensures.count refl (amounts_behind 6 15 21 c.args.section.now (size_numbers c.by_size-parents.result) c.by_size-parents.new.section c.by_size-parents.ensures (length-size_numbers c.by_size-parents.result) refl (protection_amounts c.args.section.now c.requires))))

pub by_size-married_parent-requires : goal.by_size-married_parent-requires
by_size-married_parent-requires c = (lit< tt, fewer_amounts 6 6 c.by_size-single_parent.new.section (lit≤ tt) (amounts_behind 6 6 12 c.amounts.new.section (size_numbers c.by_size-single_parent.result) c.by_size-single_parent.new.section c.by_size-single_parent.ensures (length-size_numbers c.by_size-single_parent.result) refl (amounts_behind 3 12 15 c.by_size-parents.new.section c.amounts.result c.amounts.new.section c.amounts.ensures.numbers c.amounts.ensures.count refl (amounts_behind 6 15 21 c.args.section.now (size_numbers c.by_size-parents.result) c.by_size-parents.new.section c.by_size-parents.ensures (length-size_numbers c.by_size-parents.result) refl (protection_amounts c.args.section.now c.requires)))))
