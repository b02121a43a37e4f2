use Rattle.std.proofs.Common.{refl}
use Rattle.log_session.specs.Sessions.{unread, read}
use Rattle.log_session.proofs.session.file.Goals as goal

pub returns-in-Ok-clause-session : goal.returns-in-Ok-clause-session
returns-in-Ok-clause-session g c = read (g.F.Rows.Rows.left c.in-Ok.rows) c.answer.result.0 c.in-Ok.ensures.whole c.in-Ok.ensures.rows c.answer.ensures.session

pub returns-in-Err-clause-session : goal.returns-in-Err-clause-session
returns-in-Err-clause-session g c = unread c.in-Err.stop c.in-Err.ensures.unread refl refl
