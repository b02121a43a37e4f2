use Rattle.std.proofs.Common.{rules, ◌<◌, ◌∙◌, arith, length, length-set}
use Rattle.lock_tests.specs.Desks.{HasHandle}
use Rattle.lock_tests.proofs.Dealing.{more_behind}
use Rattle.lock_tests.proofs.desks.deal.Goals as goal

pub loop-i-preserved : goal.loop-i-preserved
loop-i-preserved g c =
    let inside : c.loop-i.i < length c.args.desks.now = search rules in
    let within : c.loop-i.i < length c.loop-i.desks = omega (arith, inside, c.loop-i.invariant.desks) in
    record {
      lock = c.hand_out-handle.ensures.lock;
      share = omega (arith, c.hand_out-handle.ensures.share, c.loop-i.invariant.share);
      dealt = more_behind (HasHandle c.args.turns.now.id) c.loop-i.desks c.loop-i.i c.hand_out-handle.new.desk within c.hand_out-handle.ensures.dealt c.loop-i.invariant.dealt;
      desks = length-set c.loop-i.desks c.loop-i.i c.hand_out-handle.new.desk ∙ c.loop-i.invariant.desks;
    }
