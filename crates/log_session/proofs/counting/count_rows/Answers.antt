use Rattle.std.proofs.Common.{rules, ◌≡◌, ◌∷◌, Ok, length, ap, arith}
use Rattle.log_session.proofs.Filed.{at_err, fewer_ahead}
use Rattle.log_session.specs.Counted.{Counts}
use Rattle.log_session.proofs.Behind.{none_counted, all_counted, starved_here, no_ask_here, stopped_here, next_counted}
use Rattle.log_session.proofs.counting.count_rows.Goals as goal

pub returns-then-is_err-clause-counts : goal.returns-then-is_err-clause-counts
returns-then-is_err-clause-counts g c = rw c.reserve.ensures.disk (starved_here none_counted)

pub loop-next-init : goal.loop-next-init
loop-next-init g c = record {
  left = g.L.Rows.left c.args.rows;
  ahead = c.next-next.ensures.row;
  has = rw (c.reserve.ensures.disk, c.reserve.ensures.history) none_counted;
  decided = search rules;
  room = search rules;
  unmoved = search rules;
  honest = search rules;
}

pub loop-next-preserved : goal.loop-next-preserved
loop-next-preserved g c =
    let loop = c.loop-next.invariant in
    let is = c.in_ok-count_one-in-Ok-Some-Ok.ensures in
    let next : loop.left ≡ g.L.Rows.texts.said (Ok c.in-Ok-Some-Ok.operation) ∷ g.L.Rows.left c.loop-next.rows = search rules in
    record {
      left = g.L.Rows.left c.loop-next.rows;
      ahead = c.next-next-in-Ok-Some-Ok.ensures.row;
      has = next_counted loop.has
          c.in-Ok-Some-Ok.operation (g.L.Rows.left c.loop-next.rows) next c.count_one.new.kept.disk is.link c.count_one.new.kept.history is.list c.count_one.new.tally is.tally;
      decided = is.decided;
      room = omega (arith, ap length next, is.room, loop.room);
      unmoved = search rules;
      honest = search rules;
    }

pub returns-in_err-count_one-in-Ok-Some-Ok-clause-counts : goal.returns-in_err-count_one-in-Ok-Some-Ok-clause-counts
returns-in_err-count_one-in-Ok-Some-Ok-clause-counts g c =
    let is = c.in_err-count_one-in-Ok-Some-Ok.ensures in
    rw is.tally_err
    (at_err c.from_residual.result c.in_err-count_one-in-Ok-Some-Ok.field-0.0
    (λ ended. Counts g.D.Disk g.R.StateMachine.scheme g.R.StateMachine.semantics g.L.Rows.texts g.T.Tally.counted c.args.kept.now.history c.args.kept.now.disk c.count_one.new.kept.disk c.args.tally.now c.loop-next.tally (g.L.Rows.left c.args.rows) ended)
    c.from_residual.ensures.1 (stopped_here c.loop-next.invariant.has
    c.in-Ok-Some-Ok.operation (g.L.Rows.left c.loop-next.rows) (search rules) c.count_one.new.kept.disk _ is.stops))

pub returns-in-Ok-Some-Err-clause-counts : goal.returns-in-Ok-Some-Err-clause-counts
returns-in-Ok-Some-Err-clause-counts g c = no_ask_here c.loop-next.invariant.has c.in-Ok-Some-Err.error (g.L.Rows.left c.loop-next.rows) (search rules)

pub returns-in-Ok-None-clause-counts : goal.returns-in-Ok-None-clause-counts
returns-in-Ok-None-clause-counts g c = all_counted c.loop-next.invariant.has (search rules)

pub returns-in-Err-clause-counts : goal.returns-in-Err-clause-counts
returns-in-Err-clause-counts g c = starved_here c.loop-next.invariant.has

pub loop-next-smaller : goal.loop-next-smaller
loop-next-smaller g c =
    fewer_ahead g.L.Rows.texts.said c.loop-next.next c.next-next-in-Ok-Some-Ok.result (Ok c.in-Ok-Some-Ok.operation) (g.L.Rows.left c.loop-next.rows) (g.L.Rows.left c.next-next-in-Ok-Some-Ok.new.self)
    (search rules) c.next-next-in-Ok-Some-Ok.ensures.row
