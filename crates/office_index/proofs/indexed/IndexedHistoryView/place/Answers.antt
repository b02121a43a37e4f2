use Rattle.std.proofs.Common.{length, ap, ◌∙◌}
use Rattle.office_index.specs.Digits.{digits_of}
use Rattle.office_index.specs.Register.{Register}
use Rattle.office_index.proofs.Digits.{few_looks}
use Rattle.office_history.specs.Rows.{place_row}
use Rattle.office_updates.specs.Placed.{place_or}
use Rattle.office_index.proofs.indexed.IndexedHistoryView.place.Goals as goal

pub returns-clause-cost : goal.returns-clause-cost
returns-clause-cost g c =
    c.get.ensures.lookups (digits_of (length c.args.self.now.history))
    (few_looks _ _ _ (ap (λ (r : Register). r.history) c.self.view_is) c.self.invariant.0.few_places)

pub returns-clause-value : goal.returns-clause-value
returns-clause-value g c =
    c.place_told.ensures
    ∙ ap place_or c.get.ensures.value
    ∙ c.self.invariant.0.places c.school.inside.0 c.student.inside.0 c.year.inside.0 c.args.number
    ∙ (λ i. place_row (c.self.view_is i).history (c.school.view_is i) (c.student.view_is i) (c.year.view_is i) c.args.number)
