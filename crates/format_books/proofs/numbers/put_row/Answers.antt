use Rattle.std.proofs.Common.{refl}
use Rattle.format_books.proofs.numbers.put_row.Goals as goal

pub loop-field-init : goal.loop-field-init
loop-field-init c = record { added = rw c.fields-fields.ensures refl; room = rw c.fields-fields.ensures c.requires }
