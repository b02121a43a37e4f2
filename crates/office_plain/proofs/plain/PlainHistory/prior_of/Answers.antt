use Rattle.std.proofs.Common.{rules}
use Rattle.office_history.specs.Past.{prior_in}
use Rattle.office_plain.proofs.plain.PlainHistory.prior_of.Goals as goal

pub returns-clause-position : goal.returns-clause-position
returns-clause-position c = c.first-position.ensures.position (λ f. prior_in c.args.student f.what) (λ x r k. search rules)
