use Rattle.std.proofs.Common.{rules, ◌≡◌, ◌<◌, ◌∙◌, subst, arith, length, length-set}
use Rattle.std.proofs.Math.Seq.{map-set_same}
use Rattle.log_desks.specs.declared.stop.DeskEnd.TheVariants.{Open}
use Rattle.log_desks.specs.Desks.{DeskView, IsFresh, IsReady, shown_of}
use Rattle.log_desks.proofs.Gathering.{more_behind, fewer_ahead}
use Rattle.log_desks.proofs.crew.deal.Goals as goal

pub loop-i-preserved : goal.loop-i-preserved
loop-i-preserved g c =
    let loop = c.loop-i.invariant in
    let lock = c.args.turns.now.id in
    let desk = c.hand_out-handle.new.desk in
    let inside : c.loop-i.i < length c.args.desks.now = search rules in
    let within : c.loop-i.i < length c.loop-i.desks = omega (arith, inside, loop.desks) in
    let fresh : IsFresh lock c.args.first.opening c.hand_out-handle.result = subst (λ o. IsFresh lock o c.hand_out-handle.result) loop.opening c.hand_out-handle.ensures.fresh in
    let ready : IsReady lock c.args.first.opening desk = subst (λ o. IsReady lock o desk) loop.opening c.hand_out-handle.ensures.ready in
    record {
      fresh = fresh;
      opening = fresh.opening_is;
      share = omega (arith, c.hand_out-handle.ensures.share, loop.share);
      ready = more_behind (IsReady lock c.args.first.opening) c.loop-i.desks c.loop-i.i desk within ready loop.ready;
      ahead = fewer_ahead (λ (d : DeskView g.row.R-Entry.Denot g.row.L.Denot). d.ended ≡ Open) c.loop-i.desks c.loop-i.i desk loop.ahead;
      desks = length-set c.loop-i.desks c.loop-i.i desk ∙ loop.desks;
      shown = map-set_same shown_of c.loop-i.desks c.loop-i.i desk c.index-desks-i.result c.hand_out-handle.ensures.same ∙ loop.shown;
    }
