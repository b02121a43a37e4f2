use Rattle.std.proofs.Common.{sym, refl, ◌∙◌}
use Rattle.office_export.proofs.Spaced.{more_words}
use Rattle.office_export.proofs.form.standing_form.Goals as goal

pub returns-then-is_some-clause-form : goal.returns-then-is_some-clause-form
returns-then-is_some-clause-form c =
    let more = more_words c.cut-9.result.1 (sym c.is_some.ensures ∙ c.if-is_some.true) in
    rw (c.cut.ensures.words, c.in_ok-rest.was, c.cut-2.ensures.words, c.in_ok-rest-2.was, c.cut-3.ensures.words, c.in_ok-rest-3.was, c.cut-4.ensures.words, c.in_ok-rest-4.was, c.cut-5.ensures.words, c.in_ok-rest-5.was, c.cut-6.ensures.words, c.in_ok-rest-6.was, c.cut-7.ensures.words, c.in_ok-rest-7.was, c.cut-8.ensures.words, c.in_ok-rest-8.was, c.cut-9.ensures.words, more.2) refl
