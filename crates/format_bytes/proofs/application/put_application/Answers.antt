use Rattle.std.proofs.Common.{append_assoc}
use Rattle.format_bytes.proofs.Applications.{application_fits}
use Rattle.format_bytes.proofs.application.put_application.Goals as goal

pub returns-clause-added : goal.returns-clause-added
returns-clause-added c =
    rw (c.put_side-2.ensures.added, c.put_parents.ensures.added, c.put_side.ensures.added, c.put_upbringing.ensures.added, c.put_standing.ensures.added, c.put_applicant.ensures.added)
    (simp append_assoc)

pub returns-clause-in_range : goal.returns-clause-in_range
returns-clause-in_range c = application_fits c.args.application.now c.put_applicant.ensures.in_range
