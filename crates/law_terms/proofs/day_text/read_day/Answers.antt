use Rattle.std.proofs.Common.{subst, sym}
use Rattle.law_terms.proofs.DayTextLaws.{IsDayReading, IsDayReading-day_in}
use Rattle.law_terms.proofs.day_text.read_day.Goals as goal

pub returns : goal.returns
returns c =
    let text = c.args.text.now in
    let read = subst (IsDayReading text) (sym c.read.ensures.value) (IsDayReading-day_in text) in
    record { value = c.read.ensures.value; ok = read.ok; range = read.range; spelling = read.spelling }
