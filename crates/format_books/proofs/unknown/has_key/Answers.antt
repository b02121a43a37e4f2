use Rattle.std.proofs.Common.{◌∙◌}
use Rattle.format_books.proofs.UnknownLemmas.{is_key_by}
use Rattle.format_books.proofs.unknown.has_key.Goals as goal

pub returns : goal.returns
returns c = c.is_key_of.ensures ∙ is_key_by c.args.is_form_2 c.fields_by_form.result.now c.args.section.now c.args.key.now c.fields_by_form.ensures
