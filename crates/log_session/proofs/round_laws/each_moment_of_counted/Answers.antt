use Rattle.log_machine.proofs.Histories.{recovers_once}
use Rattle.log_session.proofs.Moments.{moments_of_counted}
use Rattle.log_session.proofs.round_laws.each_moment_of_counted.Goals as goal

pub returns : goal.returns
returns g c start left past old new output ended honest each counting =
    moments_of_counted g.D.Disk g.R.StateMachine.scheme g.R.StateMachine.semantics g.met.D.Disk.only_now g.L.Rows.texts
    (λ file one other stands also. recovers_once g.R.StateMachine.scheme g.met.R.StateMachine.alone file one other stands also) g.met.D.Disk.reads_as_image g.T.Tally.counted g.T.Tally.ending start left output ended past old new honest each counting
