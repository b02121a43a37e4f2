use Rattle.std.proofs.Common.{rules, ◌≡◌, ◌∷◌, ap, length, arith}
use Rattle.log_session.proofs.Looked.{all_looked, starved_here, unwritten_here, next_looked}
use Rattle.log_session.proofs.checking.look.Goals as goal

pub returns-in-Ok-None-clause-looks : goal.returns-in-Ok-None-clause-looks
returns-in-Ok-None-clause-looks g c = all_looked c.loop-row.invariant.looked (search rules)

pub returns-in-Err-clause-looks : goal.returns-in-Err-clause-looks
returns-in-Err-clause-looks g c = starved_here c.loop-row.invariant.looked

pub returns-then-is_err-clause-looks : goal.returns-then-is_err-clause-looks
returns-then-is_err-clause-looks g c = starved_here c.loop-row.invariant.looked

pub returns-then-is_err-2-clause-looks : goal.returns-then-is_err-2-clause-looks
returns-then-is_err-2-clause-looks g c =
    unwritten_here c.loop-row.invariant.looked
    c.in-Ok-Some.row (g.F.Rows.Rows.left c.next.new.self) (search rules) c.put_check.new.line.items (g.K.Sink.text c.write_whole.new.sink) (search rules)
    (λ honest. (search rules))

pub loop-row-preserved : goal.loop-row-preserved
loop-row-preserved g c =
    let next : g.F.Rows.Rows.left c.loop-row.rows ≡ g.F.Rows.Rows.texts.said c.in-Ok-Some.row ∷ g.F.Rows.Rows.left c.next.new.self = search rules in
    record {
      looked = next_looked c.loop-row.invariant.looked
          c.in-Ok-Some.row (g.F.Rows.Rows.left c.next.new.self) next c.put_check.new.line.items (g.K.Sink.text c.write_whole.new.sink) (search rules)
          (λ honest. (search rules)) c.count.new.self c.count.ensures.rows c.count.ensures.errors;
      few = omega (arith, ap length next);
      no_more = c.count.ensures.no_more;
      unmoved = search rules;
      honest = search rules;
    }
