use Rattle.std.proofs.Common.{rules}
use Rattle.office_history.specs.Past.{at_school, term_in}
use Rattle.office_plain.proofs.plain.PlainHistory.term_of.Goals as goal

pub returns-clause-position : goal.returns-clause-position
returns-clause-position c = c.first.ensures.position (at_school c.args.school (term_in c.args.year c.args.number)) (λ x r k. search rules)
