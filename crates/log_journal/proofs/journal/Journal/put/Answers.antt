use Rattle.std.proofs.Common.{arith, refl}
use Rattle.log_journal.proofs.journal.Journal.put.Goals as goal

pub returns-clause-ends : goal.returns-clause-ends
returns-clause-ends g c honest header h keep ends = c.put_ahead.ensures.alone honest refl header h keep ends

pub returns-clause-ends_undecided : goal.returns-clause-ends_undecided
returns-clause-ends_undecided g c honest header h keep ends = c.put_ahead.ensures.alone_undecided honest refl header h keep ends

pub returns-clause-within : goal.returns-clause-within
returns-clause-within g c honest header h keep end each room = c.put_ahead.ensures.ends honest header h keep end each (omega (arith, room))
