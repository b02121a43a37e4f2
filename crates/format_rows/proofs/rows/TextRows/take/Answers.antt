use Rattle.std.proofs.Common.{Some, refl, sym, ◌∙◌}
use Rattle.std.specs.Io.Cursor.{cursor_remaining}
use Rattle.csv.specs.Records.{fields_of}
use Rattle.format_rows.specs.Meanings.{said_of}
use Rattle.format_rows.proofs.ReadingLemmas.{is_taken, next_means, next_numbered, none_mean}
use Rattle.format_rows.proofs.rows.TextRows.take.Goals as goal

pub invariant_of-self-in-Ok-true : goal.invariant_of-self-in-Ok-true
invariant_of-self-in-Ok-true g c =
    let rem = cursor_remaining (λ v. Some v.items) in
    let reading = c.self.invariant.0 c.if-self.false in
    let read = rw c.in-Ok-true.field-0-test at c.in-Ok-true.ensures.reads reading.trim reading.ready in
    let taken = is_taken rem c.self.inside.reader c.read_byte_record.new.self (fields_of c.read_byte_record.new.row) reading read (c.in-Ok-true.ensures.ready reading.trim) c.in-Ok-true.ensures.flexible in
    (λ before. taken.reading, next_numbered rem c.self.inside.ended c.self.inside.reader c.read_byte_record.new.self (fields_of c.read_byte_record.new.row) c.self.inside.number c.self.inside.at_most c.if-self.false taken c.self.invariant.1)

pub returns-in-Ok-clause-row : goal.returns-in-Ok-clause-row
returns-in-Ok-clause-row g c =
    let rem = cursor_remaining (λ v. Some v.items) in
    let reading = c.self.invariant.0 c.if-self.false in
    let read = rw c.in-Ok-true.field-0-test at c.in-Ok-true.ensures.reads reading.trim reading.ready in
    let taken = is_taken rem c.self.inside.reader c.read_byte_record.new.self (fields_of c.read_byte_record.new.row) reading read (c.in-Ok-true.ensures.ready reading.trim) c.in-Ok-true.ensures.flexible in
    sym c.self.view_is ∙ next_means g.M.RowReader.meaning rem c.self.inside.ended c.self.inside.reader c.read_byte_record.new.self (fields_of c.read_byte_record.new.row) c.self.inside.number (said_of g.M.RowReader.said c.in-Ok.row) c.if-self.false taken c.in-Ok.ensures

pub returns-in-Ok-false-clause-row : goal.returns-in-Ok-false-clause-row
returns-in-Ok-false-clause-row g c =
    let rem = cursor_remaining (λ v. Some v.items) in
    let reading = c.self.invariant.0 c.if-self.false in
    let read = rw c.in-Ok-false.field-0-test at c.in-Ok-false.ensures.reads reading.trim reading.ready in
    (sym c.self.view_is ∙ none_mean g.M.RowReader.meaning rem c.self.inside.ended c.self.inside.reader c.read_byte_record.new.self (fields_of c.read_byte_record.new.row) c.self.inside.number c.if-self.false reading read, refl)
