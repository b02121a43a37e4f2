use Rattle.std.proofs.Common.{Ok, refl}
use Rattle.log_machine.proofs.Histories.{recovers_once}
use Rattle.log_session.proofs.Moments.{images_of_counted_session}
use Rattle.log_session.proofs.round_laws.counted_stands.Goals as goal

pub returns : goal.returns
returns g c start rows_of limit past old new input output honest reads counting =
    images_of_counted_session g.D.Disk g.R.StateMachine.scheme g.R.StateMachine.semantics g.met.D.Disk.only_now g.L.Rows.texts
    (λ file one other stands also. recovers_once g.R.StateMachine.scheme g.met.R.StateMachine.alone file one other stands also) g.met.D.Disk.reads_as_image g.T.Tally.counted g.T.Tally.ending start rows_of limit input output (Ok tt) past old new refl honest reads counting
