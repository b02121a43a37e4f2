use Rattle.std.proofs.Common.{List, ℕ, sym, subst, ◌∙◌}
use Rattle.std.specs.Prelude.{IfSome}
use Rattle.office_export.specs.Said.{HasDigits}
use Rattle.office_export.proofs.Spaced.{filing_line_is}
use Rattle.office_export.proofs.form.form_of_words.Goals as goal

pub returns-in_ok-words-clause-digits : goal.returns-in_ok-words-clause-digits
returns-in_ok-words-clause-digits c =
    let whole = rw c.in_ok-words.was at c.cut.ensures.whole in
    let line = filing_line_is c.args.front.now c.cut.result.0.now c.in_ok-words.field-0.now c.as_slice.result.now whole c.as_slice.ensures (sym c.eq.ensures ∙ c.if-eq.true) in
    subst (λ (l : List ℕ). IfSome c.filing_form.result (HasDigits l)) line c.filing_form.ensures.digits

pub returns-in_ok-words-2-clause-digits : goal.returns-in_ok-words-2-clause-digits
returns-in_ok-words-2-clause-digits c = c.standing_form.ensures.other _
