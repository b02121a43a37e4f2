use Rattle.std.proofs.Common.{rules}
use Rattle.log_session.specs.Sessions.{Takes}
use Rattle.log_session.proofs.Filed.{at_err, none_filed, all_filed, starved_here, stopped_here, unwritten_here, next_filed, fewer_ahead}
use Rattle.log_session.proofs.filing.file_rows.Goals as goal

pub returns-then-is_err-clause-files : goal.returns-then-is_err-clause-files
returns-then-is_err-clause-files g c =
    rw c.reserve.ensures.disk (starved_here (none_filed (g.K.Sink.honest c.args.out.now) (g.K.Sink.text c.args.out.now)) c.reserve.new.self.history)

pub loop-next-init : goal.loop-next-init
loop-next-init g c = record {
  left = g.L.Rows.left c.args.rows;
  ahead = c.next-next.ensures.row;
  filed = rw (c.reserve.ensures.disk, c.reserve.ensures.history) (none_filed (g.K.Sink.honest c.args.out.now) (g.K.Sink.text c.args.out.now));
  decided = search rules;
  disk_unmoved = search rules;
  sink_unmoved = search rules;
  disk_honest = search rules;
  sink_honest = search rules;
}

pub returns-in-Ok-None-clause-files : goal.returns-in-Ok-None-clause-files
returns-in-Ok-None-clause-files g c = all_filed c.loop-next.invariant.filed (search rules)

pub returns-in-Err-clause-files : goal.returns-in-Err-clause-files
returns-in-Err-clause-files g c = starved_here c.loop-next.invariant.filed c.loop-next.kept.history

pub returns-in_err-file_row-clause-files : goal.returns-in_err-file_row-clause-files
returns-in_err-file_row-clause-files g c =
    at_err c.from_residual.result c.in_err-file_row.field-0.0
    (λ ended. Takes g.D.Disk g.R.StateMachine.scheme g.R.StateMachine.semantics g.L.Rows.texts c.args.kept.now.history c.file_row.new.kept.history c.args.kept.now.disk c.file_row.new.kept.disk (record { honest = g.K.Sink.honest c.args.out.now; before = g.K.Sink.text c.args.out.now; after = g.K.Sink.text c.loop-next.out }) (g.L.Rows.left c.args.rows) ended)
    c.from_residual.ensures.1 (stopped_here c.loop-next.invariant.filed
    c.in-Ok-Some.row (g.L.Rows.left c.loop-next.rows) (search rules) c.file_row.new.kept.disk c.file_row.new.kept.history _ c.in_err-file_row.ensures.stops)

pub returns-then-is_err-2-clause-files : goal.returns-then-is_err-2-clause-files
returns-then-is_err-2-clause-files g c =
    unwritten_here c.loop-next.invariant.filed
    c.in-Ok-Some.row (g.L.Rows.left c.loop-next.rows) (search rules) c.file_row.new.kept.disk c.in_ok-file_row.ensures.link
    c.file_row.new.line.items (g.K.Sink.text c.write_whole.new.sink) c.in_ok-file_row.ensures.line c.file_row.new.kept.history
    (λ honest. (search rules))

pub loop-next-preserved : goal.loop-next-preserved
loop-next-preserved g c =
    let loop = c.loop-next.invariant in
    record {
      left = g.L.Rows.left c.loop-next.rows;
      ahead = c.next-next-in-loop-next.ensures.row;
      filed = next_filed {output = record { honest = g.K.Sink.honest c.args.out.now; before = g.K.Sink.text c.args.out.now; after = g.K.Sink.text c.loop-next.out }} loop.filed
          c.in-Ok-Some.row (g.L.Rows.left c.loop-next.rows) (search rules) c.file_row.new.kept.disk c.in_ok-file_row.ensures.link
          c.file_row.new.line.items (g.K.Sink.text c.write_whole.new.sink) c.in_ok-file_row.ensures.line
          (λ honest. (search rules)) c.file_row.new.kept.history c.in_ok-file_row.ensures.list;
      decided = c.in_ok-file_row.ensures.decided;
      disk_unmoved = search rules;
      sink_unmoved = search rules;
      disk_honest = search rules;
      sink_honest = search rules;
    }

pub loop-next-smaller : goal.loop-next-smaller
loop-next-smaller g c =
    fewer_ahead g.L.Rows.texts.said c.loop-next.next c.next-next-in-loop-next.result c.in-Ok-Some.row (g.L.Rows.left c.loop-next.rows) (g.L.Rows.left c.next-next-in-loop-next.new.self)
    (search rules) c.next-next-in-loop-next.ensures.row
