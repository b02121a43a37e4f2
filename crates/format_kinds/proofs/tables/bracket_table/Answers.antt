use Rattle.std.proofs.Common.{take, length, ◌≤◌, arith}
use Rattle.format_kinds.specs.Book.{bracket_row}
use Rattle.format_kinds.proofs.Behind.{bracket_counts, bracket_table, table_numbers}
use Rattle.format_kinds.proofs.tables.bracket_table.Goals as goal

pub brackets-rows-requires-clause-left : goal.brackets-rows-requires-clause-left
brackets-rows-requires-clause-left c = (bracket_counts c.args.first_rate c.args.section.now c.count-count.new.section c.count-count.result c.requires c.count-count.ensures).left

pub from_rows-requires-clause-in_range : goal.from_rows-requires-clause-in_range
from_rows-requires-clause-in_range c =
    let few : c.count-count.result ≤ length c.brackets-rows.result = let most = (bracket_counts c.args.first_rate c.args.section.now c.count-count.new.section c.count-count.result c.requires c.count-count.ensures).few in omega (arith, most, c.brackets-rows.ensures.count) in
    (bracket_table c.args.first_rate c.args.section.now c.brackets-rows.new.section (take c.count-count.result c.brackets-rows.result) c.requires (table_numbers bracket_row c.args.section.now c.count-count.new.section c.brackets-rows.new.section c.count-count.result c.brackets-rows.result c.count-count.ensures c.brackets-rows.ensures.numbers few)).in_range

pub from_rows-requires-clause-marginal : goal.from_rows-requires-clause-marginal
from_rows-requires-clause-marginal c =
    let few : c.count-count.result ≤ length c.brackets-rows.result = let most = (bracket_counts c.args.first_rate c.args.section.now c.count-count.new.section c.count-count.result c.requires c.count-count.ensures).few in omega (arith, most, c.brackets-rows.ensures.count) in
    (bracket_table c.args.first_rate c.args.section.now c.brackets-rows.new.section (take c.count-count.result c.brackets-rows.result) c.requires (table_numbers bracket_row c.args.section.now c.count-count.new.section c.brackets-rows.new.section c.count-count.result c.brackets-rows.result c.count-count.ensures c.brackets-rows.ensures.numbers few)).marginal
