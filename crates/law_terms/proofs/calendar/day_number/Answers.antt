use Rattle.std.proofs.Common.{rules, refl, ◌≡◌, ◌∙◌, arith, pos, ◌≤ℤ◌}
use Rattle.jiff_core.specs.Calendar.{IsDate, days_from_civil}
use Rattle.jiff_core.proofs.SignedLemmas.{signed_arith}
use Rattle.law_terms.proofs.DayLemmas.{civil_day, number_low, read_back}
use Rattle.law_terms.proofs.calendar.day_number.Goals as goal

-- src/lib.rt:10:1
pub returns-in-Ok-clause-value : goal.returns-in-Ok-clause-value
returns-in-Ok-clause-value c =
    let low : pos 1900 ≤ℤ c.args.y = omega (arith, signed_arith) in
    let high : c.args.y ≤ℤ pos 9999 = omega (arith, signed_arith) in
    let is : IsDate c.args.y (pos c.args.m) (pos c.args.d) = search rules in
    let both = civil_day c.args.y c.args.m c.args.d low high is in
    let year : c.to_plain.result.year ≡ c.args.y = search rules in
    let month : c.to_plain.result.month ≡ c.args.m = search rules in
    let dayof : c.to_plain.result.day ≡ c.args.d = search rules in
    let number : days_from_civil c.to_plain.result.year c.to_plain.result.month c.to_plain.result.day ≡ days_from_civil c.args.y c.args.m c.args.d = rw (year, month, dayof) refl in
    (both.0, read_back c.to_unix_epoch_day.result c.to_unix_epoch_day.ensures.bound ∙ (c.to_unix_epoch_day.ensures.value ∙ (number ∙ both.1)))

pub returns-in-Ok-clause-range : goal.returns-in-Ok-clause-range
returns-in-Ok-clause-range c =
    let low : pos 1900 ≤ℤ c.args.y = omega (arith, signed_arith) in
    let high : c.args.y ≤ℤ pos 9999 = omega (arith, signed_arith) in
    let is : IsDate c.args.y (pos c.args.m) (pos c.args.d) = search rules in
    let both = civil_day c.args.y c.args.m c.args.d low high is in
    let year : c.to_plain.result.year ≡ c.args.y = search rules in
    let month : c.to_plain.result.month ≡ c.args.m = search rules in
    let dayof : c.to_plain.result.day ≡ c.args.d = search rules in
    let number : days_from_civil c.to_plain.result.year c.to_plain.result.month c.to_plain.result.day ≡ days_from_civil c.args.y c.args.m c.args.d = rw (year, month, dayof) refl in
    let back = read_back c.to_unix_epoch_day.result c.to_unix_epoch_day.ensures.bound in
    let value = c.to_unix_epoch_day.ensures.value ∙ (number ∙ both.1) in
    let from = number_low c.args.y c.args.m c.args.d in
    (omega (arith, signed_arith, back, value, from), omega (arith, signed_arith, back, c.to_unix_epoch_day.ensures.bound))
