use Rattle.std.proofs.Common.{◌≡◌, ◌∙◌, sym, ap, ℕ, ◌+◌, length, Some, arith}
use Rattle.office_history.specs.Award.{ceiling_under}
use Rattle.office_history.specs.Past.{the_book}
use Rattle.office_history.proofs.Ceilings.{none_under}
use Rattle.office_history.proofs.Legal.{legal_is_short}
use Rattle.office_updates.proofs.after_years.applied.Goals.{then-award-eq0, else-award-eq0}
use Rattle.office_updates.proofs.after_years.applied.Goals as goal

pub overflow_add-position : goal.overflow_add-position
overflow_add-position g c =
    let short = legal_is_short (g.P.HistoryView.history c.args.past.now) c.front-position.ensures.legal in
    let value = c.front-position.ensures.value in
    omega arith

pub returns : goal.returns
returns g c =
    let past = g.P.HistoryView.history c.args.past.now in
    let filed = c.args.filed.now in
    let b = the_book past filed.year in
    let ceiling : c.if-award-eq0.ceiling ≡ ceiling_under b (Some filed) = elim c.if-award-eq0.branch [
      | then-award-eq0 w ↦ w.ceiling-is ∙ w.ceiling_on-ceiling.ensures
      | else-award-eq0 w ↦ w.ceiling-is ∙ sym (none_under b filed (λ none. w.if-award-eq0.false (c.requires ∙ none)))
    ] in
    let position : c.front-position.result + 1 ≡ length past + 1 = ap (λ (n : ℕ). n + 1) c.front-position.ensures.value in
    λ i. record c.args.before.now {
      transaction = c.from.ensures i;
      application_at = position i;
      scheduled = c.args.award;
      ceiling = ceiling i;
    }
