use Rattle.std.proofs.Common.{rules, ◌≡◌, ◌<◌, ◌∙◌, ap, arith, length, length-set, get_or, sym}
use Rattle.std.proofs.Math.Seq.{map-set_same}
use Rattle.web_workers.specs.Workers.{HasEnded, shown_of}
use Rattle.log_desks.proofs.Gathering.{fewer_ahead, still_ahead, get_or_self}
use Rattle.web_workers.proofs.Gathered.{gathers_more}
use Rattle.web_workers.proofs.crew.collect.Goals as goal

pub loop-i-preserved : goal.loop-i-preserved
loop-i-preserved g c =
    let loop = c.loop-i.invariant in
    let lock = c.args.turns.now.id in
    let was = c.args.workers.now in
    let worker = c.take_back.new.worker in
    let here = get_or c.loop-i.workers c.loop-i.i c.index-workers-i.result in
    let inside : c.loop-i.i < length was = search rules in
    let same : get_or was c.loop-i.i here ≡ here = sym (loop.still c.loop-i.i here (omega arith)) ∙ get_or_self c.loop-i.workers c.loop-i.i c.index-workers-i.result (omega (arith, inside, loop.workers)) in
    record {
      gathers = gathers_more lock c.args.rest.opening c.loop-i.handle c.take_back.new.handle was c.loop-i.i here inside same loop.gathers c.take_back.ensures.joined;
      share = omega (arith, c.take_back.ensures.joined.share, loop.share);
      room = c.take_back.ensures.joined.room_is ∙ loop.room;
      ahead = fewer_ahead (HasEnded lock c.args.rest.opening) c.loop-i.workers c.loop-i.i worker loop.ahead;
      still = still_ahead c.loop-i.workers was c.loop-i.i worker loop.still;
      workers = length-set c.loop-i.workers c.loop-i.i worker ∙ loop.workers;
      shown = map-set_same shown_of c.loop-i.workers c.loop-i.i worker c.index-workers-i.result (ap shown_of c.take_back.ensures.same) ∙ loop.shown;
    }
