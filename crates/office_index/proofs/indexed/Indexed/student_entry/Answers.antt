use Rattle.std.proofs.Common.{length, ap}
use Rattle.office_index.specs.Digits.{digits_of}
use Rattle.office_index.specs.Register.{Register}
use Rattle.office_index.proofs.Digits.{few_looks}
use Rattle.office_index.proofs.indexed.Indexed.student_entry.Goals as goal

pub returns-clause-cost : goal.returns-clause-cost
returns-clause-cost g c =
    c.get.ensures.lookups (digits_of (length c.args.self.now.history))
    (few_looks _ _ _ (ap (λ (r : Register). r.history) c.self.view_is) c.self.invariant.0.few_students)
