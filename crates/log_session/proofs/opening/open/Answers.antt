use Rattle.log_session.proofs.Standing.{opened_from}
use Rattle.log_session.proofs.opening.open.Goals as goal

pub returns-in-Ok-clause-opened : goal.returns-in-Ok-clause-opened
returns-in-Ok-clause-opened g c =
    let kept = c.in-Ok.kept in
    let is = c.in-Ok.ensures in
    opened_from g.D.Disk g.R.StateMachine.scheme kept.history kept.pending c.args.disk kept.disk is.honest c.legal.ensures is.decided is.recovers is.quiet is.elapsed is.sound is.moments

pub returns-in-Err-clause-unopened : goal.returns-in-Err-clause-unopened
returns-in-Err-clause-unopened g c = record {
  honest = c.in-Err.ensures.honest_err;
  unborn = c.in-Err.ensures.no_office;
  foreign = c.in-Err.ensures.foreign;
  old = c.in-Err.ensures.old;
  damaged = c.in-Err.ensures.damaged;
  complete = c.in-Err.ensures.complete;
  unfiled = c.in-Err.ensures.unwritten;
  untouched = c.in-Err.ensures.untouched;
  moments = c.in-Err.ensures.moments_err;
}
