use Rattle.run_words.proofs.WordsLemmas.{reads_year}
use Rattle.run_words.proofs.words.report_year.Goals as goal

pub returns : goal.returns
returns c = reads_year c.args.year.now (record { year = c.in_ok-number_in.field-0; in_range = _ }) c.in_ok-number_in.ensures.spelled
