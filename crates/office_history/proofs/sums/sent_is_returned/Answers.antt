use Rattle.std.proofs.Common.{reverse}
use Rattle.office_history.proofs.Sendings.{returned_is_taken, sent_is_returned}
use Rattle.office_history.proofs.sums.sent_is_returned.Goals as goal

pub returns-clause-sent : goal.returns-clause-sent
returns-clause-sent c passes = sent_is_returned (reverse c.args.history.now) c.requires passes

pub returns-clause-taken : goal.returns-clause-taken
returns-clause-taken c passes = returned_is_taken (reverse c.args.history.now) passes
