use Rattle.std.proofs.Common.{refl}
use Rattle.std.proofs.lemmas.List.{append-nil}
use Rattle.log_session.specs.Sessions.{founded, unsaid, refused}
use Rattle.log_session.proofs.Standing.{founded_from}
use Rattle.log_session.proofs.founding.found.Goals as goal

pub returns-in-Ok-write_whole-clause-session : goal.returns-in-Ok-write_whole-clause-session
returns-in-Ok-write_whole-clause-session g c =
    let kept = c.in-Ok.kept in
    let is = c.in-Ok.ensures in
    founded (founded_from g.D.Disk g.R.StateMachine.scheme kept.history kept.pending c.args.disk kept.disk c.into_disk-disk.result c.into_disk-disk.ensures.disk
    is.honest is.decided is.empty is.unborn is.quiet is.sound is.moments) c.in-Ok-write_whole.ensures.written

pub returns-in-Err-write_whole-clause-session : goal.returns-in-Err-write_whole-clause-session
returns-in-Err-write_whole-clause-session g c =
    let kept = c.in-Ok.kept in
    let is = c.in-Ok.ensures in
    unsaid (founded_from g.D.Disk g.R.StateMachine.scheme kept.history kept.pending c.args.disk kept.disk c.into_disk-disk.result c.into_disk-disk.ensures.disk
    is.honest is.decided is.empty is.unborn is.quiet is.sound is.moments) (λ honest. rw append-nil (c.in-Err-write_whole.ensures.failed honest))

pub returns-in-Err-clause-session : goal.returns-in-Err-clause-session
returns-in-Err-clause-session g c =
    let is = c.in-Err.ensures in
    refused c.in-Err.fault (record {
      honest = is.honest_err;
      exists = is.exists;
      foreign = is.foreign;
      unfounded = is.no_memory;
      untouched = is.untouched;
      moments = is.moments_err;
    }) refl
