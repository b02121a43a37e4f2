use Rattle.std.proofs.Common.{rules, Global, map, string_bytes}
use Rattle.run_words.proofs.DeskWords.{row_split}
use Rattle.run_words.proofs.ServeWords.{serve_told}
use Rattle.run_words.proofs.main_row.row_behind.Goals as goal

pub returns-in-Some-clause-serve : goal.returns-in-Some-clause-serve
returns-in-Some-clause-serve c = serve_told c.args.stamp.now (map (string_bytes {Z = Global}) c.args.words.now) c.serve_row.result c.in-Some.row c.in-Some.is c.serve_row.ensures

pub returns-in-Some-split_first-clause-desks : goal.returns-in-Some-split_first-clause-desks
returns-in-Some-split_first-clause-desks c =
    row_split (string_bytes {Z = Global}) c.args.words.now c.in-Some-split_first.first.now c.in-Some-split_first.files.now c.as_str.result.now c.args.stamp.now c.desks_row.result
    (search rules) (search rules) c.desks_row.ensures.desks
