use Rattle.std.proofs.Common.{arith}
use Rattle.desk_sheets.proofs.RowLemmas.{few_words, many_words, three_words}
use Rattle.desk_sheets.proofs.request.row_of.Goals as goal

pub returns-in_default : goal.returns-in_default
returns-in_default c = few_words c.args.words.now (omega (arith, c.in_default.len_below))

pub returns-in_default-2 : goal.returns-in_default-2
returns-in_default-2 c = three_words c.args.words.now (omega (arith, c.in_default.len_at_least, c.in_default.len_below))

pub returns-in_default-3 : goal.returns-in_default-3
returns-in_default-3 c = many_words c.args.words.now (omega (arith, c.in_default.len_at_least))
