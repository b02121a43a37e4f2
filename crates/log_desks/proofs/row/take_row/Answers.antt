use Rattle.std.proofs.Common.{rules}
use Rattle.log_desks.proofs.Rowing.{error_row}
use Rattle.log_desks.proofs.row.take_row.Goals as goal

pub returns-in-Ok-put_error-clause-written : goal.returns-in-Ok-put_error-clause-written
returns-in-Ok-put_error-clause-written g c =
    error_row g.R.StateMachine.semantics g.L.Rows.texts c.args.by c.args.row c.in-Err.error c.args.text.now.items c.put_error.new.out.items c.args.handle.now (search rules) (search rules)
