use Rattle.std.proofs.Common.{◌+◌}
use Rattle.log_desk_runs.specs.DeskTexts.{admitted_text, desks_text}
use Rattle.log_desk_runs.specs.Names.{names_of}
use Rattle.log_runs.proofs.Puts.{cut_early, puts_then}
use Rattle.log_desk_runs.proofs.desk_lines.put_all.Goals as goal

pub returns-in-Ok : goal.returns-in-Ok
returns-in-Ok g c =
    puts_then g.K.Sink (desks_text c.args.desks.now) (admitted_text (c.args.front + 1) (names_of g.C.EntryMatch.same c.args.desks.now (c.args.front + 1) c.args.rows.now)) c.put_entries.result c.args.out.now c.put_desks.new.out c.put_entries.new.out c.in-Ok.ensures c.put_entries.ensures

pub returns-in-Err : goal.returns-in-Err
returns-in-Err g c = cut_early g.K.Sink (desks_text c.args.desks.now) (admitted_text (c.args.front + 1) (names_of g.C.EntryMatch.same c.args.desks.now (c.args.front + 1) c.args.rows.now)) c.args.out.now c.put_desks.new.out c.in-Err.ensures
