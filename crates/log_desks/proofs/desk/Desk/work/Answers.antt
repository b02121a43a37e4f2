use Rattle.std.proofs.Common.{rules, refl}
use Rattle.log_desks.specs.Answered.{Files}
use Rattle.log_desks.proofs.Working.{works_of}
use Rattle.log_desks.proofs.desk.Desk.work.Goals as goal

pub returns : goal.returns
returns g c =
    let inside = c.self.inside in
    let done = c.file_rows-answered in
    let files : Files g.R.StateMachine.semantics g.R.SingleEntryMachine.own g.C.EntryCopies.copied g.L.Rows.texts inside.number inside.prefix.items (g.L.Rows.left inside.rows) done.new.text.items done.result.0 done.result.1 done.result.2 done.new.handle = search rules in
    rw (← c.self.view_is) (works_of g.R.StateMachine.semantics g.R.SingleEntryMachine.own g.C.EntryCopies.copied g.L.Rows.texts g.L.Rows.left c.args.turns.now.id _ _ c.in-Some.handle done.new.handle (search rules) refl done.ensures.lock done.ensures.share done.ensures.opening done.ensures.ended refl refl files)
