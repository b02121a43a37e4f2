use Rattle.std.proofs.Common.{get_or}
use Rattle.format_filings.proofs.RowLaws.{row_again, text_means}
use Rattle.format_filings.proofs.written_laws.rows_read_back.Goals as goal

pub returns-clause-row : goal.returns-clause-row
returns-clause-row c = λ row i d below has. row_again row (get_or c.args.filings.now i d) (c.are_filings.ensures i d below) has

pub returns-clause-text : goal.returns-clause-text
returns-clause-text c = text_means c.args.filings.now c.are_filings.ensures
