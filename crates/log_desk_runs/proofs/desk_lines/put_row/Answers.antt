use Rattle.std.proofs.Common.{ℕ, ◌∙◌, ap, subst}
use Rattle.log_desk_runs.specs.DeskTexts.{stop_words}
use Rattle.log_runs.specs.Puts.{Puts}
use Rattle.log_desk_runs.proofs.desk_lines.put_row.Goals as goal

pub returns : goal.returns
returns g c = subst (λ t. Puts g.K.Sink t c.put.result c.args.out.now c.put.new.out) (c.as_bytes.ensures.value ∙ (c.deref.ensures.0 ∙ (c.stop_text.ensures ∙ ap (λ (r : ℕ). stop_words r c.args.stop) c.from.ensures))) c.put.ensures
