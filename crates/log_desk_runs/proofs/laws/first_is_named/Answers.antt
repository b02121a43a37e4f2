use Rattle.log_desk_runs.proofs.Naming.{told_itself, told_of}
use Rattle.log_desk_runs.proofs.laws.first_is_named.Goals as goal

pub returns-clause-answered : goal.returns-clause-answered
returns-clause-answered g c opening closed before after filed fresh = told_itself g.R.StateMachine.semantics g.R.SingleEntryMachine.own g.C.EntryCopies.copied g.C.EntryMatch.same g.L.Rows.texts g.L.Rows.left g.met.R.SingleEntryMachine.own_added g.met.C.EntryMatch.tells g.met.C.EntryMatch.itself g.met.C.EntryMatch.owned g.met.C.EntryMatch.alike opening closed before after filed fresh.numbered

pub returns-clause-named : goal.returns-clause-named
returns-clause-named g c opening closed before after filed fresh = told_of g.R.StateMachine.semantics g.R.SingleEntryMachine.own g.C.EntryCopies.copied g.C.EntryMatch.same g.L.Rows.texts g.L.Rows.left g.met.R.SingleEntryMachine.own_added g.met.C.EntryMatch.tells g.met.C.EntryMatch.itself g.met.C.EntryMatch.owned g.met.C.EntryMatch.alike opening closed before after filed fresh.numbered
