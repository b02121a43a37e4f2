use Rattle.std.proofs.Common.{sym, refl, ◌∙◌}
use Rattle.office_export.proofs.Spaced.{more_words}
use Rattle.office_export.proofs.form.end_form.Goals as goal

pub returns-then-is_some-clause-form : goal.returns-then-is_some-clause-form
returns-then-is_some-clause-form c =
    let more = more_words c.cut-3.result.1 (sym c.is_some.ensures ∙ c.if-is_some.true) in
    rw (c.cut.ensures.words, c.in_ok-rest.was, c.cut-2.ensures.words, c.in_ok-rest-2.was, c.cut-3.ensures.words, more.2) refl
