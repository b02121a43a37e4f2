use Rattle.std.proofs.Common.{Ok, Err, refl}
use Rattle.log_session.specs.Sessions.{unopened, opened}
use Rattle.log_session.proofs.session.answer.Goals as goal

pub returns-in-Err-clause-session : goal.returns-in-Err-clause-session
returns-in-Err-clause-session g c = unopened c.in-Err.error c.in-Err.ensures.unopened refl

pub returns-in-Ok-file_rows-clause-session : goal.returns-in-Ok-file_rows-clause-session
returns-in-Ok-file_rows-clause-session g c =
    opened c.in-Ok.kept.history c.file_rows.new.kept.history c.in-Ok.kept.disk (Ok tt) c.in-Ok.ensures.opened
    (rw c.into_disk.ensures.disk c.in-Ok-file_rows.ensures.files)

pub returns-in-Err-file_rows-clause-session : goal.returns-in-Err-file_rows-clause-session
returns-in-Err-file_rows-clause-session g c =
    opened c.in-Ok.kept.history c.file_rows.new.kept.history c.in-Ok.kept.disk (Err c.in-Err-file_rows.stop) c.in-Ok.ensures.opened
    (rw c.into_disk-in-Err-file_rows.ensures.disk c.in-Err-file_rows.ensures.files)
