use Rattle.std.proofs.Common.{sym, ◌∙◌}
use Rattle.format_books.proofs.UnknownLemmas.{is_section_by, no_section}
use Rattle.format_books.proofs.unknown.has_section.Goals as goal

pub returns-then-is_empty : goal.returns-then-is_empty
returns-then-is_empty c = no_section c.args.is_form_2 c.args.name.now (sym c.if-is_empty.ensures)

pub returns : goal.returns
returns c = c.is_section_of.ensures ∙ is_section_by c.args.is_form_2 c.fields_by_form.result.now c.args.name.now c.fields_by_form.ensures (sym c.if-is_empty.ensures)
