use Rattle.loans.proofs.Fit.{limits_fit}
use Rattle.loans.proofs.limits.put_limits.Goals as goal

pub returns-clause-in_range : goal.returns-clause-in_range
returns-clause-in_range c = limits_fit c.args.limits.now c.number_of_year-year.ensures.in_range
