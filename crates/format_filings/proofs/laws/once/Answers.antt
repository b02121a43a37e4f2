use Rattle.format_filings.proofs.RowsLemmas.{all_said_once}
use Rattle.format_filings.proofs.laws.once.Goals as goal

pub returns : goal.returns
returns c one other h = all_said_once one other h
