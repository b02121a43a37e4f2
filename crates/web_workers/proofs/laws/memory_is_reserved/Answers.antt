use Rattle.log_stamps.specs.Rows.{semantics_under, own_under}
use Rattle.web_workers.proofs.AllStates.{have_room}
use Rattle.web_workers.proofs.Stamped.{own_added_under}
use Rattle.web_workers.proofs.laws.memory_is_reserved.Goals as goal

pub returns : goal.returns
returns g c stamp limit opening closed before after served told =
    have_room (semantics_under stamp g.R.StateMachine.semantics) (own_under stamp g.R.SingleEntryMachine.own) g.T.MachineApi.scheme (own_added_under g.R.StateMachine.semantics g.R.SingleEntryMachine.own g.met.R.SingleEntryMachine.own_added stamp) g.met.T.MachineApi.unavailable g.P.Acceptor.tells g.P.Acceptor.faults limit opening closed before after served told
