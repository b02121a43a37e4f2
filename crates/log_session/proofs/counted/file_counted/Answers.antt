use Rattle.std.proofs.Common.{refl}
use Rattle.log_session.specs.Counted.{unread, read}
use Rattle.log_session.proofs.counted.file_counted.Goals as goal

pub returns-in-Ok-clause-session : goal.returns-in-Ok-clause-session
returns-in-Ok-clause-session g c = read (g.F.Rows.Rows.left c.in-Ok.rows) c.answer_counted.result.0 c.in-Ok.ensures.whole c.in-Ok.ensures.rows c.answer_counted.ensures.counted

pub returns-in-Err-clause-session : goal.returns-in-Err-clause-session
returns-in-Err-clause-session g c = unread c.in-Err.stop c.in-Err.ensures.unread refl refl
