use Rattle.log_desk_runs.proofs.Reading.{joins_of}
use Rattle.log_desk_runs.proofs.desks.read_desk.Goals as goal
use Rattle.log_desk_runs.proofs.desks.read_desk.Goals.{in-Ok-push, in-Err-push}

pub returns-clause-desk : goal.returns-clause-desk
returns-clause-desk g c = elim c.match-push.branch [
  | in-Ok-push w ↦ rw w.result-is
      (joins_of g.I.Rows.Rows.left c.args.number (g.I.Rows.Rows.rows_of (g.I.DeskSource.reads.forms c.args.input.now) (g.I.DeskSource.reads.left c.args.input.now)) _ c.in-Ok.rows c.in-Ok-desk_prefix.prefix.items c.new.result c.args.desks.now.items
      c.push.new.self.items c.new.ensures c.in-Ok-desk_prefix.ensures c.in-Ok.ensures.whole c.in-Ok.ensures.rows w.in-Ok-push.ensures.items)
  | in-Err-push w ↦ rw w.result-is tt
]
