use Rattle.std.proofs.Common.{subst}
use Rattle.log_desks.specs.DeskTexts.{stop_at, stop_text}
use Rattle.log_desk_runs.specs.DeskTexts.{stop_line}
use Rattle.log_runs.specs.Puts.{HasCut, HasPut}
use Rattle.log_runs.proofs.Puts.{cut_early, puts_then}
use Rattle.log_desk_runs.proofs.desk_lines.put_desk.Goals as goal

pub returns-in-Ok : goal.returns-in-Ok
returns-in-Ok g c =
    let desk = c.args.desk.now in
    puts_then g.K.Sink desk.text (stop_text (stop_line desk.prefix) (stop_at desk.number desk.answered desk.ended)) c.put_last.result c.args.out.now c.put.new.out c.put_last.new.out
    (subst (λ t. HasPut g.K.Sink t c.args.out.now c.put.new.out) c.text.ensures c.in-Ok.ensures) c.put_last.ensures

pub returns-in-Err : goal.returns-in-Err
returns-in-Err g c =
    let desk = c.args.desk.now in
    cut_early g.K.Sink desk.text (stop_text (stop_line desk.prefix) (stop_at desk.number desk.answered desk.ended)) c.args.out.now c.put.new.out
    (subst (λ t. HasCut g.K.Sink t c.args.out.now c.put.new.out) c.text.ensures c.in-Err.ensures)
