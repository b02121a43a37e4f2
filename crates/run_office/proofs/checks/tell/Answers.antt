use Rattle.std.proofs.Common.{rules, refl}
use Rattle.run_office.specs.Ran.{tallied, unwritten, starved}
use Rattle.run_office.proofs.checks.tell.Goals as goal

pub returns-then-is_err-clause-tallies : goal.returns-then-is_err-clause-tallies
returns-then-is_err-clause-tallies g c = starved c.args.tally refl

pub returns-in-Ok-clause-tallies : goal.returns-in-Ok-clause-tallies
returns-in-Ok-clause-tallies g c = tallied c.args.tally (λ honest. (search rules))

pub returns-clause-tallies : goal.returns-clause-tallies
returns-clause-tallies g c = unwritten c.args.tally (λ honest. (search rules))
