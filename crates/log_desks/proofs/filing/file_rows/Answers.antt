use Rattle.std.proofs.Common.{rules, ◌≡◌, sym, subst}
use Rattle.log_desks.proofs.Ahead.{fewer_ahead}
use Rattle.log_desks.proofs.Rowing.{FilesOn, files_none, files_stopped, files_next}
use Rattle.log_desks.proofs.filing.file_rows.Goals as goal

pub loop-next-init : goal.loop-next-init
loop-next-init g c = record {
  left = g.L.Rows.left c.args.rows.now;
  ahead = c.next-next.ensures.row;
  files = subst (λ t. FilesOn g.R.StateMachine.semantics g.R.SingleEntryMachine.own g.C.EntryCopies.copied g.L.Rows.texts c.args.desk c.args.prefix.now (g.L.Rows.left c.args.rows.now) (g.L.Rows.left c.args.rows.now) t 0 c.args.handle.now)
      (sym c.requires.empty) (files_none c.args.handle.now c.requires.older c.requires.mine c.requires.clean);
  lock = search rules;
  share = search rules;
  opening = search rules;
}

pub returns-in-Err-file_row-clause-files : goal.returns-in-Err-file_row-clause-files
returns-in-Err-file_row-clause-files g c =
    let same : c.file_row.new.text.items ≡ c.loop-next.text.items = c.in-Err-file_row.ensures.text in
    rw (same, c.copy_row-copy.ensures) (files_stopped c.loop-next.invariant.files c.in-Ok-Some.row (g.L.Rows.left c.loop-next.rows) (search rules) c.file_row.new.handle c.in-Err-file_row.stop c.in-Err-file_row.ensures.stopped)

pub loop-next-preserved-in-Ok : goal.loop-next-preserved-in-Ok
loop-next-preserved-in-Ok g c = record {
  left = g.L.Rows.left c.loop-next.rows;
  ahead = c.next-next-in-loop-next.ensures.row;
  files = files_next c.loop-next.invariant.files c.in-Ok-Some.row (g.L.Rows.left c.loop-next.rows) (search rules) c.file_row.new.handle c.file_row.new.text.items c.in-Ok.ensures.written;
  lock = search rules;
  share = search rules;
  opening = search rules;
}

pub loop-next-preserved : goal.loop-next-preserved
loop-next-preserved g c = record {
  left = g.L.Rows.left c.loop-next.rows;
  ahead = c.next-next-in-loop-next.ensures.row;
  files = files_next c.loop-next.invariant.files c.in-Ok-Some.row (g.L.Rows.left c.loop-next.rows) (search rules) c.file_row.new.handle c.file_row.new.text.items c.in-Ok.ensures.written;
  lock = search rules;
  share = search rules;
  opening = search rules;
}

pub loop-next-smaller-in-Ok : goal.loop-next-smaller-in-Ok
loop-next-smaller-in-Ok g c =
    fewer_ahead g.L.Rows.texts.said c.loop-next.next c.next-next-in-loop-next.result c.in-Ok-Some.row (g.L.Rows.left c.loop-next.rows) (g.L.Rows.left c.next-next-in-loop-next.new.self)
    (search rules) c.next-next-in-loop-next.ensures.row

pub loop-next-smaller : goal.loop-next-smaller
loop-next-smaller g c =
    fewer_ahead g.L.Rows.texts.said c.loop-next.next c.next-next-in-loop-next.result c.in-Ok-Some.row (g.L.Rows.left c.loop-next.rows) (g.L.Rows.left c.next-next-in-loop-next.new.self)
    (search rules) c.next-next-in-loop-next.ensures.row
