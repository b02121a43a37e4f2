use Rattle.std.proofs.Common.{refl}
use Rattle.log_stamps.specs.Rows.{semantics_under, own_under}
use Rattle.web_workers.proofs.Telling.{told_run}
use Rattle.web_workers.proofs.Stamped.{own_added_under}
use Rattle.web_workers.proofs.laws.told.Goals as goal

pub returns : goal.returns
returns g c stamp requests answers before after run =
    told_run (semantics_under stamp g.R.StateMachine.semantics) (own_under stamp g.R.SingleEntryMachine.own) g.T.MachineApi.scheme before.by (own_added_under g.R.StateMachine.semantics g.R.SingleEntryMachine.own g.met.R.SingleEntryMachine.own_added stamp) g.met.T.MachineApi.unavailable requests answers before after refl run
