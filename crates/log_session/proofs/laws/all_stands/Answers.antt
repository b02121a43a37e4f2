use Rattle.std.proofs.Common.{Ok, refl}
use Rattle.log_machine.proofs.Histories.{recovers_once}
use Rattle.log_session.proofs.Fronts.{images_of_session}
use Rattle.log_session.proofs.laws.all_stands.Goals as goal

pub returns : goal.returns
returns g c rows_of limit past old new input output honest reads session =
    images_of_session g.D.Disk g.R.StateMachine.scheme g.R.StateMachine.semantics g.met.D.Disk.only_now g.L.Rows.texts output
    (λ file one other stands also. recovers_once g.R.StateMachine.scheme g.met.R.StateMachine.alone file one other stands also) rows_of limit input (Ok tt) past old new refl honest reads session
