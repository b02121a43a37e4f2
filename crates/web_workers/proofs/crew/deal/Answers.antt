use Rattle.std.proofs.Common.{rules, ◌<◌, ◌+◌, ◌∙◌, subst, sym, arith, length, length-set, get_or}
use Rattle.log_desks.specs.Desks.{IsFresh}
use Rattle.log_desks.proofs.Gathering.{still_ahead}
use Rattle.web_workers.specs.Workers.{IsReady}
use Rattle.web_workers.proofs.Dealing.{get_or_any, ready_more}
use Rattle.web_workers.proofs.crew.deal.Goals as goal

pub loop-i-preserved : goal.loop-i-preserved
loop-i-preserved g c =
    let loop = c.loop-i.invariant in
    let lock = c.args.turns.now.id in
    let was = c.args.workers.now in
    let worker = c.hand_out-handle.new.worker in
    let inside : c.loop-i.i < length was = search rules in
    let within : c.loop-i.i < length c.loop-i.workers = omega (arith, inside, loop.workers) in
    let fresh : IsFresh lock c.args.first.opening c.hand_out-handle.result = subst (λ o. IsFresh lock o c.hand_out-handle.result) loop.opening c.hand_out-handle.ensures.fresh in
    record {
      fresh = fresh;
      opening = fresh.opening_is;
      share = omega (arith, c.hand_out-handle.ensures.share, loop.share);
      room = c.hand_out-handle.ensures.room ∙ loop.room;
      ready = ready_more lock c.args.first.opening was c.loop-i.workers c.loop-i.i (get_or c.loop-i.workers c.loop-i.i c.index-workers-i.result) worker within loop.ready
          (λ d. sym (loop.still c.loop-i.i d (omega arith)) ∙ get_or_any c.loop-i.workers c.loop-i.i d c.index-workers-i.result within)
          (subst (λ o. IsReady lock o (c.loop-i.i + 1) (get_or c.loop-i.workers c.loop-i.i c.index-workers-i.result) worker) loop.opening c.hand_out-handle.ensures.ready);
      still = still_ahead c.loop-i.workers was c.loop-i.i worker loop.still;
      workers = length-set c.loop-i.workers c.loop-i.i worker ∙ loop.workers;
    }
