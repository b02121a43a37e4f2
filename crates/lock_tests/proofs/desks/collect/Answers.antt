use Rattle.std.proofs.Common.{◌∙◌, arith, length-set}
use Rattle.lock_tests.specs.Desks.{HasHandle}
use Rattle.lock_tests.proofs.Dealing.{fewer_ahead}
use Rattle.lock_tests.proofs.desks.collect.Goals as goal

pub loop-i-preserved : goal.loop-i-preserved
loop-i-preserved g c = record {
  lock = c.take_back.ensures.lock;
  share = omega (arith, c.take_back.ensures.share, c.loop-i.invariant.share);
  ahead = fewer_ahead (HasHandle c.args.turns.now.id) c.loop-i.desks c.loop-i.i c.take_back.new.desk c.loop-i.invariant.ahead;
  desks = length-set c.loop-i.desks c.loop-i.i c.take_back.new.desk ∙ c.loop-i.invariant.desks;
}
