use Rattle.log_desk_runs.specs.DeskTexts.{stop_words}
use Rattle.log_runs.proofs.Puts.{cut_early, puts_then}
use Rattle.log_desk_runs.proofs.desk_lines.put_stop.Goals as goal

pub returns-in-Ok : goal.returns-in-Ok
returns-in-Ok g c = puts_then g.K.Sink c.args.prefix.now (stop_words c.args.row c.args.stop) c.put_row.result c.args.out.now c.put.new.out c.put_row.new.out c.in-Ok.ensures c.put_row.ensures

pub returns-in-Err : goal.returns-in-Err
returns-in-Err g c = cut_early g.K.Sink c.args.prefix.now (stop_words c.args.row c.args.stop) c.args.out.now c.put.new.out c.in-Err.ensures
