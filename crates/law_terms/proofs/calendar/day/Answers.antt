use Rattle.std.proofs.Common.{◌≡◌, ◌∙◌, ap, subst, ℤ, to_z, of_z, to_z-of_z, w32}
use Rattle.law_terms.specs.CivilDays.{IsCivilDate, day_number as number_of}
use Rattle.law_terms.proofs.DayLemmas.{count_of_number, read_back_day}
use Rattle.law_terms.proofs.calendar.day.Goals as goal

pub returns-in-Some : goal.returns-in-Some
returns-in-Some c =
    let year : to_z w32 (of_z w32 c.args.y) ≡ c.args.y = to_z-of_z {w = w32} c.ranges.y in
    let number : to_z w32 (of_z w32 c.in-Some.number) ≡ c.in-Some.number = read_back_day c.in-Some.number c.in-Some.ensures.range in
    let there = c.in-Some.ensures.value in
    (subst (λ (z : ℤ). IsCivilDate z c.args.m c.args.d) year there.0, count_of_number (to_z w32 (of_z w32 c.in-Some.number)) c.args.y c.args.m c.args.d (number ∙ (there.1 ∙ ap (λ (z : ℤ). number_of z c.args.m c.args.d) year)))
