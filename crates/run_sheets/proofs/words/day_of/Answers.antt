use Rattle.run_sheets.proofs.RowLemmas.{reads_day, reads_no_day}
use Rattle.run_sheets.proofs.words.day_of.Goals as goal

pub returns-in-Ok-clause-value : goal.returns-in-Ok-clause-value
returns-in-Ok-clause-value c =
    let value = rw c.as_bytes.ensures.value at c.read_day.ensures.value in
    let text = rw c.as_bytes.ensures.value at (c.read_day.ensures.ok c.in-Ok.day).0 c.in-Ok.is in
    reads_day c.args.word.now c.read_day.result c.in-Ok.day c.in-Ok.is value text

pub returns-in-Err-clause-value : goal.returns-in-Err-clause-value
returns-in-Err-clause-value c =
    let value = rw c.as_bytes.ensures.value at c.read_day.ensures.value in
    reads_no_day c.args.word.now c.read_day.result c.in-Err.field-0 c.in-Err.is value
