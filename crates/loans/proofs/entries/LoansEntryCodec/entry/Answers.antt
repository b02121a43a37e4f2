use Rattle.loans.proofs.Fit.{row_parted}
use Rattle.loans.proofs.entries.LoansEntryCodec.entry.Goals as goal

pub key_of-requires : goal.key_of-requires
key_of-requires c = record { in_range = rw c.split_at.ensures.front (row_parted c.args.code c.args.numbers.now c.requires).1 }

pub what_of-requires-clause-in_range : goal.what_of-requires-clause-in_range
what_of-requires-clause-in_range c = rw c.split_at.ensures.back (row_parted c.args.code c.args.numbers.now c.requires).2
