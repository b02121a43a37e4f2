use Rattle.std.proofs.Common.{rules, ◌≡◌, ◌∙◌, arith, ap, pos, ◌+ℤ◌}
use Rattle.jiff_core.specs.Calendar.{IsEpochDay}
use Rattle.jiff_core.specs.Date.{epoch_day}
use Rattle.jiff.proofs.SpanFacts.{signed_arith, date_add-days, can_add-days}
use Rattle.law_terms.proofs.DayLemmas.{read_back}
use Rattle.law_terms.proofs.calendar.days_later.Goals as goal

pub returns-in-Ok-checked_add : goal.returns-in-Ok-checked_add
returns-in-Ok-checked_add c =
    let start : epoch_day c.from_plain.result ≡ c.args.d = search rules in
    let later : epoch_day c.to_plain.result ≡ epoch_day c.from_plain.result +ℤ pos 45 = ap epoch_day c.to_plain.ensures ∙ (c.in-Ok-checked_add.ensures.value ∙ date_add-days c.from_plain.result (pos 45) c.days.result c.days.ensures) in
    let sum : epoch_day c.to_plain.result ≡ c.args.d +ℤ pos 45 = later ∙ ap (λ z. z +ℤ pos 45) start in
    let number = read_back c.to_unix_epoch_day.result c.to_unix_epoch_day.ensures.bound ∙ (c.to_unix_epoch_day.ensures.value ∙ sum) in
    let bound : IsEpochDay c.to_unix_epoch_day.result = c.to_unix_epoch_day.ensures.bound in
    let same = c.to_unix_epoch_day.ensures.value ∙ sum in
    let low = c.requires.0 in
    ((omega (arith, signed_arith), omega (arith, signed_arith)), number)

pub returns-in-Err : goal.returns-in-Err
returns-in-Err c =
    let start : epoch_day c.from_plain.result ≡ c.args.d = search rules in
    let can = can_add-days c.from_plain.result (pos 45) c.days.result c.days.ensures in
    λ day. let there : IsEpochDay (epoch_day c.from_plain.result +ℤ pos 45) = (omega (arith, signed_arith, start, day), omega (arith, signed_arith, start, day)) in
    let ok = c.in-Err.ensures.succeeds.1 (can.1 there) in cc
