use Rattle.std.proofs.Common.{IsTrue, [], ◌∷◌, ◌++◌, ◌+◌, ◌∙◌, ap, subst}
use Rattle.journal_tests.proofs.pieces.holding.Goals as goal

pub loop-payload-init : goal.loop-payload-init
loop-payload-init g c = record {
  stands = λ honest. let before = subst IsTrue c.in-Ok.ensures.honest honest in (_, ([], c.in-Ok.ensures.kept before));
  decided = c.in-Ok.ensures.decided;
  count = c.in-Ok.ensures.count;
}

pub loop-payload-preserved : goal.loop-payload-preserved
loop-payload-preserved g c = record {
  stands = λ honest.
      let before = subst IsTrue c.put.ensures.honest honest in
      let (header, (payloads, keeps)) = c.loop-payload.invariant.stands before in
      (header, (payloads ++ _ ∷ [], c.in-Ok-put.ensures.kept before header payloads keeps));
  decided = c.in-Ok-put.ensures.decided;
  count = c.in-Ok-put.ensures.count ∙ ap (λ n. n + 1) c.loop-payload.invariant.count;
}
