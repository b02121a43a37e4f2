use Rattle.std.proofs.Common.{◌∙◌, sym}
use Rattle.audit.specs.Findings.{behind_end, formless, stray}
use Rattle.audit.proofs.line.judge_line.Goals as goal

pub returns-then-lines : goal.returns-then-lines
returns-then-lines g c = λ told keeps rest. stray c.args.line.now rest (behind_end (sym keeps.ended ∙ c.if-lines.true))

pub returns-in-None : goal.returns-in-None
returns-in-None g c = λ told keeps rest. stray c.args.line.now rest (formless (sym c.in-None.ensures.form))
