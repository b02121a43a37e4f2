use Rattle.std.proofs.Common.{◌≡◌, IfOk, List, ℕ, ◌∙◌, subst}
use Rattle.office_amends.specs.Changes.{changes_text}
use Rattle.run_builds.proofs.Built.{as_many, told_apart}
use Rattle.run_builds.proofs.comparing.told.Goals as goal

pub changes-requires-clause-old_stamped : goal.changes-requires-clause-old_stamped
changes-requires-clause-old_stamped c =
    as_many c.args.old.now.inner.office.history c.office.result.now.history c.args.old.now.stamps c.stamps-old_stamps.result.now (c.office.ensures ∙ c.inner.ensures) c.stamps-old_stamps.ensures

pub changes-requires-clause-new_stamped : goal.changes-requires-clause-new_stamped
changes-requires-clause-new_stamped c =
    as_many c.args.new.now.inner.office.history c.office-2.result.now.history c.args.new.now.stamps c.stamps-new_stamps.result.now (c.office-2.ensures ∙ c.inner-2.ensures) c.stamps-new_stamps.ensures

pub returns : goal.returns
returns c =
    let past = told_apart c.args.old.now.inner.office.history c.office.result.now.history c.args.old.now.stamps c.stamps-old_stamps.result.now (c.office.ensures ∙ c.inner.ensures) c.stamps-old_stamps.ensures in
    let now = told_apart c.args.new.now.inner.office.history c.office-2.result.now.history c.args.new.now.stamps c.stamps-new_stamps.result.now (c.office-2.ensures ∙ c.inner-2.ensures) c.stamps-new_stamps.ensures in
    subst (λ (bytes : List ℕ). IfOk c.changes.result (λ text. text.items ≡ bytes)) (λ i. changes_text (past i) (now i)) c.changes.ensures
