use Rattle.std.proofs.Common.{refl}
use Rattle.log_session.specs.Checks.{unread, read}
use Rattle.log_session.proofs.checking.check.Goals as goal

pub returns-in-Ok-clause-checks : goal.returns-in-Ok-clause-checks
returns-in-Ok-clause-checks g c = read (g.F.Rows.Rows.left c.in-Ok.rows) c.look.result c.in-Ok.ensures.whole c.in-Ok.ensures.rows c.look.ensures.looks

pub returns-in-Err-clause-checks : goal.returns-in-Err-clause-checks
returns-in-Err-clause-checks g c = unread c.in-Err.stop c.in-Err.ensures.unread refl
