use Rattle.std.proofs.Common.{rules, arith, ◌∙◌}
use Rattle.web_session.proofs.PayloadBuffer.{room_kept, front_more}
use Rattle.web_session.proofs.pieces.await_bytes.Goals as goal

pub loop-link-preserved : goal.loop-link-preserved
loop-link-preserved g c = record {
  honest = c.fill.ensures.honest ∙ c.loop-link.invariant.honest;
  text = search rules;
  bytes = search rules;
  room = λ honest small le. room_kept c.loop-link.held.items (g.L.Connection.tells c.loop-link.link).left c.fill.new.held.items (g.L.Connection.tells c.fill.new.link).left c.args.count
      (c.in_ok-fill.ensures.bytes (c.loop-link.invariant.honest ∙ honest)) (c.fill.ensures.no_further (c.loop-link.invariant.honest ∙ honest)) (let a = c.loop-link-test.true in let b = c.len.ensures in omega (arith, a, b)) le;
  later = (let a = c.fill.ensures.later in let b = c.loop-link.invariant.later in omega (arith, a, b));
  still = c.in_ok-fill.ensures.unmoved ∙ c.loop-link.invariant.still;
  grown = (let more = c.in_ok-fill.ensures.grown in front_more c.args.held.now.items c.loop-link.held.items c.fill.new.held.items more.got more.behind c.loop-link.invariant.grown);
}
