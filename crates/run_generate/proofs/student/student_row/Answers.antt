use Rattle.std.proofs.Common.{refl}
use Rattle.run_generate.proofs.student.student_row.Goals as goal

pub returns-in-0-clause-row : goal.returns-in-0-clause-row
returns-in-0-clause-row c = rw (c.in-0.is, c.application.ensures) refl

pub returns-in-2-clause-row : goal.returns-in-2-clause-row
returns-in-2-clause-row c = rw (c.in-2.is, c.origination.ensures) refl

pub returns-in-3-clause-row : goal.returns-in-3-clause-row
returns-in-3-clause-row c = rw (c.in-3.is, c.payment.ensures) refl
