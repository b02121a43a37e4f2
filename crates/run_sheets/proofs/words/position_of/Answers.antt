use Rattle.run_sheets.proofs.RowLemmas.{reads_position}
use Rattle.run_sheets.proofs.words.position_of.Goals as goal

pub returns : goal.returns
returns c = reads_position c.args.word.now (record { number = c.in_ok-number_in.field-0; in_range = _ }) c.in_ok-number_in.ensures.spelled
