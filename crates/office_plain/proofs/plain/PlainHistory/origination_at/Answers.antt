use Rattle.std.proofs.Common.{rules}
use Rattle.office_history.specs.Past.{at_school, originated_in}
use Rattle.office_plain.proofs.plain.PlainHistory.origination_at.Goals as goal

pub returns : goal.returns
returns c = c.first-position.ensures.position (at_school c.args.school (originated_in c.args.student c.args.year)) (λ x r k. search rules)
