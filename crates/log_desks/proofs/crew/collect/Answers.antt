use Rattle.std.proofs.Common.{rules, ◌≡◌, ◌<◌, ◌∙◌, ap, arith, length, length-set, get_or, sym}
use Rattle.std.proofs.Math.Seq.{map-set_same}
use Rattle.log_desks.specs.Desks.{HasEnded, shown_of}
use Rattle.log_desks.proofs.Gathering.{fewer_ahead, still_ahead, gathers_more, get_or_self}
use Rattle.log_desks.proofs.crew.collect.Goals as goal

pub loop-i-preserved : goal.loop-i-preserved
loop-i-preserved g c =
    let loop = c.loop-i.invariant in
    let lock = c.args.turns.now.id in
    let was = c.args.desks.now in
    let desk = c.take_back.new.desk in
    let here = get_or c.loop-i.desks c.loop-i.i c.index-desks-i.result in
    let inside : c.loop-i.i < length was = search rules in
    let same : get_or was c.loop-i.i here ≡ here = sym (loop.still c.loop-i.i here (omega arith)) ∙ get_or_self c.loop-i.desks c.loop-i.i c.index-desks-i.result (omega (arith, inside, loop.desks)) in
    record {
      gathers = gathers_more lock c.args.rest.opening c.loop-i.handle c.take_back.new.handle was c.loop-i.i here inside same loop.gathers c.take_back.ensures.joined;
      share = omega (arith, c.take_back.ensures.joined.share, loop.share);
      ahead = fewer_ahead (HasEnded lock c.args.rest.opening) c.loop-i.desks c.loop-i.i desk loop.ahead;
      still = still_ahead c.loop-i.desks was c.loop-i.i desk loop.still;
      desks = length-set c.loop-i.desks c.loop-i.i desk ∙ loop.desks;
      shown = map-set_same shown_of c.loop-i.desks c.loop-i.i desk c.index-desks-i.result (ap shown_of c.take_back.ensures.same) ∙ loop.shown;
    }
