use Rattle.run_words.proofs.NumberLemmas.{natural_err, natural_ok}
use Rattle.run_words.proofs.number.number_in.Goals as goal

pub returns-in-Ok : goal.returns-in-Ok
returns-in-Ok c =
    let found = natural_ok c.as_bytes.result.now c.args.word.now c.args.low c.args.high c.in-Ok.number c.as_bytes.ensures.value c.requires.low_in_range c.requires.high_in_range c.in-Ok.ensures.ok in
    record { spelled = found.0; in_range = found.1; none = λ is. absurd cc }

pub returns-in-Err-clause-none : goal.returns-in-Err-clause-none
returns-in-Err-clause-none c = λ is. natural_err c.as_bytes.result.now c.args.word.now c.args.low c.args.high c.in-Err.field-0 c.as_bytes.ensures.value c.requires.low_in_range c.requires.high_in_range c.in-Err.ensures.ok
