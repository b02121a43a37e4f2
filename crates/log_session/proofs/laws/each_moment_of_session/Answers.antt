use Rattle.log_machine.proofs.Histories.{recovers_once}
use Rattle.log_session.proofs.Fronts.{moments_of_session}
use Rattle.log_session.proofs.laws.each_moment_of_session.Goals as goal

pub returns : goal.returns
returns g c rows_of limit past old new input output ended honest each session =
    moments_of_session g.D.Disk g.R.StateMachine.scheme g.R.StateMachine.semantics g.met.D.Disk.only_now g.L.Rows.texts output
    (λ file one other stands also. recovers_once g.R.StateMachine.scheme g.met.R.StateMachine.alone file one other stands also) rows_of limit input g.met.D.Disk.reads_as_image ended past old new honest each session
