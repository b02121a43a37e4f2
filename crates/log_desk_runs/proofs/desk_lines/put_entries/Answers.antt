use Rattle.std.proofs.Common.{rules, ◌<◌, ◌≤◌, ◌+◌, length, arith}
use Rattle.log_runs.proofs.Puts.{put_none}
use Rattle.log_desk_runs.specs.Names.{names_of}
use Rattle.log_desk_runs.proofs.NameLists.{length-names, name_told}
use Rattle.log_desk_runs.proofs.Putting.{rows_cut, rows_end, rows_put}
use Rattle.log_desk_runs.proofs.desk_lines.put_entries.Goals as goal

pub loop-i-init : goal.loop-i-init
loop-i-init g c = put_none g.K.Sink c.args.out.now

pub returns-in-Err : goal.returns-in-Err
returns-in-Err g c =
    let names = names_of g.C.EntryMatch.same c.args.desks.now (c.args.front + 1) c.args.rows.now in
    let inside : c.loop-i.i < length c.args.rows.now = search rules in
    rows_cut g.K.Sink (c.args.front + 1) names c.loop-i.i c.args.out.now c.loop-i.out c.put_entry.new.out c.name_of-name.result _ (omega (arith, inside, length-names g.C.EntryMatch.same c.args.desks.now (c.args.front + 1) c.args.rows.now))
    (name_told g.C.EntryMatch.same c.args.desks.now (c.args.front + 1) c.args.rows.now c.loop-i.i _ _ c.name_of-name.result inside (search rules) (omega arith) c.name_of-name.ensures) (omega arith) c.loop-i.invariant c.in-Err.ensures

pub loop-i-preserved : goal.loop-i-preserved
loop-i-preserved g c =
    let names = names_of g.C.EntryMatch.same c.args.desks.now (c.args.front + 1) c.args.rows.now in
    let inside : c.loop-i.i < length c.args.rows.now = search rules in
    rows_put g.K.Sink (c.args.front + 1) names c.loop-i.i c.args.out.now c.loop-i.out c.put_entry.new.out c.name_of-name.result _ (omega (arith, inside, length-names g.C.EntryMatch.same c.args.desks.now (c.args.front + 1) c.args.rows.now))
    (name_told g.C.EntryMatch.same c.args.desks.now (c.args.front + 1) c.args.rows.now c.loop-i.i _ _ c.name_of-name.result inside (search rules) (omega arith) c.name_of-name.ensures) (omega arith) c.loop-i.invariant c.in-Ok.ensures

pub returns : goal.returns
returns g c =
    let past : length c.args.rows.now ≤ c.loop-i.i = search rules in
    rows_end g.K.Sink (c.args.front + 1) (names_of g.C.EntryMatch.same c.args.desks.now (c.args.front + 1) c.args.rows.now) c.loop-i.i c.args.out.now c.loop-i.out c.loop-i.out (omega (arith, past, length-names g.C.EntryMatch.same c.args.desks.now (c.args.front + 1) c.args.rows.now)) c.loop-i.invariant
