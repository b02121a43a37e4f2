use Rattle.office_history.proofs.Enrolled.{net_enrolled}
use Rattle.office_history.proofs.sums.paid_is_enrolled.Goals as goal

pub returns : goal.returns
returns c = net_enrolled c.args.history.now c.requires
