use Rattle.std.proofs.Common.{ap, sym}
use Rattle.toml.specs.View.{table_view}
use Rattle.format_books.specs.Reading.{fields_error, first_error}
use Rattle.format_books.proofs.reading.error_of_fields.Goals as goal

pub loop-field-init : goal.loop-field-init
unfolding fields_error
loop-field-init c = ap (λ fs. first_error fs (table_view c.args.table.now)) (sym c.fields_of-fields.ensures)
