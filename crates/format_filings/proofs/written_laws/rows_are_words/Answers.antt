use Rattle.std.proofs.Common.{get_or}
use Rattle.format_filings.proofs.RowLaws.{row_from_comma}
use Rattle.format_filings.proofs.written_laws.rows_are_words.Goals as goal

pub returns : goal.returns
returns c = λ i d below. row_from_comma (get_or c.args.filings.now i d)
