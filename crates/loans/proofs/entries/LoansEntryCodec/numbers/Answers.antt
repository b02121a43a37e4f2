use Rattle.loans.proofs.Fit.{row_of}
use Rattle.loans.proofs.entries.LoansEntryCodec.numbers.Goals as goal

pub returns-clause-in_range : goal.returns-clause-in_range
returns-clause-in_range c = row_of c.args.entry.now.key c.args.entry.now.what c.put_key.ensures.in_range c.put_what.ensures.in_range
