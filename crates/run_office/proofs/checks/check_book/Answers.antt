use Rattle.run_office.specs.Ran as run
use Rattle.run_office.specs.Ran.{ChecksBook}
use Rattle.run_office.proofs.checks.check_book.Goals as goal

pub returns-clause-checks : goal.returns-clause-checks
returns-clause-checks g c = rw c.ended_checking.ensures (run.looked_at c.check.result c.check.ensures.checks)
