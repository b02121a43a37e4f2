use Rattle.std.proofs.Common.{take, length, ◌≤◌, arith}
use Rattle.format_kinds.specs.Book.{age_row}
use Rattle.format_kinds.proofs.Behind.{age_counts, age_table, table_numbers}
use Rattle.format_kinds.proofs.tables.age.Goals as goal

pub age_rows-rows-requires-clause-left : goal.age_rows-rows-requires-clause-left
age_rows-rows-requires-clause-left c = (age_counts c.args.section.now c.count-count.new.section c.count-count.result c.requires c.count-count.ensures).left

pub from_rows-requires-clause-in_range : goal.from_rows-requires-clause-in_range
from_rows-requires-clause-in_range c =
    let few : c.count-count.result ≤ length c.age_rows-rows.result = let most = (age_counts c.args.section.now c.count-count.new.section c.count-count.result c.requires c.count-count.ensures).few in omega (arith, most, c.age_rows-rows.ensures.count) in
    (age_table c.args.section.now c.age_rows-rows.new.section (take c.count-count.result c.age_rows-rows.result) c.requires (table_numbers age_row c.args.section.now c.count-count.new.section c.age_rows-rows.new.section c.count-count.result c.age_rows-rows.result c.count-count.ensures c.age_rows-rows.ensures.numbers few)).in_range

pub from_rows-requires-clause-by_age : goal.from_rows-requires-clause-by_age
from_rows-requires-clause-by_age c =
    let few : c.count-count.result ≤ length c.age_rows-rows.result = let most = (age_counts c.args.section.now c.count-count.new.section c.count-count.result c.requires c.count-count.ensures).few in omega (arith, most, c.age_rows-rows.ensures.count) in
    (age_table c.args.section.now c.age_rows-rows.new.section (take c.count-count.result c.age_rows-rows.result) c.requires (table_numbers age_row c.args.section.now c.count-count.new.section c.age_rows-rows.new.section c.count-count.result c.age_rows-rows.result c.count-count.ensures c.age_rows-rows.ensures.numbers few)).by_age
