use Rattle.log_session.proofs.Faults.{faulted_from}
use Rattle.log_session.proofs.counting.count_one.Goals as goal

pub returns-in-DiskFault-clause-stops : goal.returns-in-DiskFault-clause-stops
returns-in-DiskFault-clause-stops g c =
    let old = c.args.kept.now in
    let is = c.in-DiskFault.ensures in
    let new = c.submit_ahead.new.self in
    faulted_from g.row.L-Error.Denot g.D.Disk g.R.StateMachine.scheme g.R.StateMachine.semantics old.history c.args.operation old.disk new.disk is.honest
    old.pending c.requires.decided c.in-DiskFault.undecided new.history new.pending is.submit is.sound is.moments
