use Rattle.std.proofs.Common.{◌∙◌, ◌++◌, sym, subst}
use Rattle.log_desks.specs.DeskTexts.{stop_text}
use Rattle.log_desk_runs.specs.DeskTexts.{stop_line, stop_words}
use Rattle.log_runs.specs.Puts.{HasPut, Puts}
use Rattle.log_runs.proofs.Puts.{put_none}
use Rattle.log_desk_runs.proofs.desk_lines.put_last.Goals as goal

pub returns-in-Some : goal.returns-in-Some
returns-in-Some g c =
    subst (λ o. Puts g.K.Sink (stop_text (stop_line c.args.desk.now.prefix) o) c.put_stop.result c.args.out.now c.put_stop.new.out) (sym c.in-Some.is ∙ c.stopped.ensures)
    (subst (λ p. Puts g.K.Sink (p ++ stop_words c.in-Some.at.row c.in-Some.stop) c.put_stop.result c.args.out.now c.put_stop.new.out) c.prefix.ensures c.put_stop.ensures)

pub returns-in-None : goal.returns-in-None
returns-in-None g c =
    subst (λ o. HasPut g.K.Sink (stop_text (stop_line c.args.desk.now.prefix) o) c.args.out.now c.args.out.now) (sym c.in-None.is ∙ c.stopped.ensures) (put_none g.K.Sink c.args.out.now)
