use Rattle.std.proofs.Common.{rules, ◌<◌, length, slice_index_or, sym, subst}
use Rattle.log_desks.specs.Desks.{IsReady, HasEnded, Works}
use Rattle.log_desk_runs.proofs.desks.work_all.Goals as goal

pub for_each_mut-requires-clause-accepts : goal.for_each_mut-requires-clause-accepts
for_each_mut-requires-clause-accepts g c = λ κs bounds i p lt at.
    (c.requires.0, subst (IsReady c.args.turns.now.id c.requires.0) (sym at) (c.requires.1 i p.now lt))

pub returns-clause-ended : goal.returns-clause-ended
returns-clause-ended g c opening ready k d lt =
    let inside : k < length c.args.desks.now = search rules in
    let h = (c.for_each_mut.ensures k d inside).1 in
    subst (HasEnded c.args.turns.now.id opening) {y = slice_index_or c.for_each_mut.new.s k d} h.left (h.call.ends opening (subst (IsReady c.args.turns.now.id opening) (sym h.argument_is) (ready k d inside)))

pub returns-clause-works : goal.returns-clause-works
returns-clause-works g c k d lt =
    let h = (c.for_each_mut.ensures k d lt).1 in
    subst (λ j. Works g.R.StateMachine.semantics g.R.SingleEntryMachine.own g.C.EntryCopies.copied g.L.Rows.texts g.L.Rows.left c.args.turns.now.id j (slice_index_or c.for_each_mut.new.s k d)) h.argument_is (subst (Works g.R.StateMachine.semantics g.R.SingleEntryMachine.own g.C.EntryCopies.copied g.L.Rows.texts g.L.Rows.left c.args.turns.now.id h.argument.now) {y = slice_index_or c.for_each_mut.new.s k d} h.left h.call)
