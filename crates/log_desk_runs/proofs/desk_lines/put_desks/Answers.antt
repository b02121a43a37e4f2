use Rattle.std.proofs.Common.{rules, ◌<◌, length}
use Rattle.log_runs.proofs.Puts.{put_none}
use Rattle.log_desk_runs.proofs.Putting.{desks_cut, desks_put}
use Rattle.log_desk_runs.proofs.desk_lines.put_desks.Goals as goal

pub loop-i-init : goal.loop-i-init
loop-i-init g c = put_none g.K.Sink c.args.out.now

pub returns-in-Err : goal.returns-in-Err
returns-in-Err g c =
    let inside : c.loop-i.i < length c.args.desks.now = search rules in
    desks_cut g.K.Sink c.args.desks.now c.loop-i.i c.args.out.now c.loop-i.out c.put_desk.new.out c.index-desks-i.result inside c.index-desks-i.is c.loop-i.invariant c.in-Err.ensures

pub loop-i-preserved : goal.loop-i-preserved
loop-i-preserved g c =
    let inside : c.loop-i.i < length c.args.desks.now = search rules in
    desks_put g.K.Sink c.args.desks.now c.loop-i.i c.args.out.now c.loop-i.out c.put_desk.new.out c.index-desks-i.result inside c.index-desks-i.is c.loop-i.invariant c.in-Ok.ensures
