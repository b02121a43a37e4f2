use Rattle.std.proofs.Common.{◌∙◌, subst}
use Rattle.log_runs.specs.Puts.{Puts}
use Rattle.log_desk_runs.proofs.desk_lines.put_entry.Goals as goal

pub returns : goal.returns
returns g c = subst (λ t. Puts g.K.Sink t c.put.result c.args.out.now c.put.new.out) (c.as_bytes.ensures.value ∙ (c.deref.ensures.0 ∙ c.admitted_line.ensures)) c.put.ensures
