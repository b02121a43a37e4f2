use Rattle.log_stamps.specs.Rows.{semantics_under, own_under}
use Rattle.web_workers.proofs.AllStates.{each_brought, each_told}
use Rattle.web_workers.proofs.Stamped.{own_added_under}
use Rattle.web_workers.proofs.laws.all_told.Goals as goal

pub returns-clause-told : goal.returns-clause-told
returns-clause-told g c stamp limit opening closed before after served =
    each_told (semantics_under stamp g.R.StateMachine.semantics) (own_under stamp g.R.SingleEntryMachine.own) g.T.MachineApi.scheme (own_added_under g.R.StateMachine.semantics g.R.SingleEntryMachine.own g.met.R.SingleEntryMachine.own_added stamp) g.met.T.MachineApi.unavailable g.P.Acceptor.tells g.P.Acceptor.faults limit opening closed before after served

pub returns-clause-brought : goal.returns-clause-brought
returns-clause-brought g c stamp limit opening closed before after served told =
    each_brought (semantics_under stamp g.R.StateMachine.semantics) (own_under stamp g.R.SingleEntryMachine.own) g.T.MachineApi.scheme (own_added_under g.R.StateMachine.semantics g.R.SingleEntryMachine.own g.met.R.SingleEntryMachine.own_added stamp) g.met.T.MachineApi.unavailable g.P.Acceptor.tells g.P.Acceptor.faults limit opening closed before after served told
