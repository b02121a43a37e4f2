use Rattle.std.proofs.Common.{◌≡◌, ◌∙◌, ℕ, pos, nat_abs, subst, sym, ap}
use Rattle.law_terms.specs.CivilDays.{IsCivilDate, day_number}
use Rattle.law_terms.proofs.DayLemmas.{dated_by_number, cast_fits, read_back_year, read_back_wide}
use Rattle.law_terms.proofs.day_text.date_of.Goals as goal

pub overflow_cast-result : goal.overflow_cast-result
overflow_cast-result c =
    let plain = c.in-Ok.plain in
    let dated = dated_by_number plain.year plain.month plain.day c.args.number (plain.year_in, plain.month_in, plain.day_in) (c.in-Ok.ensures.value ∙ read_back_wide c.args.number c.requires) c.requires in
    cast_fits _ dated.y (read_back_year plain.year plain.year_in ∙ dated.year_is) dated.below

pub returns-clause-is_date : goal.returns-clause-is_date
returns-clause-is_date c =
    let plain = c.in-Ok.plain in
    let dated = dated_by_number plain.year plain.month plain.day c.args.number (plain.year_in, plain.month_in, plain.day_in) (c.in-Ok.ensures.value ∙ read_back_wide c.args.number c.requires) c.requires in
    let year = ap nat_abs (read_back_year plain.year plain.year_in ∙ dated.year_is) in
    subst (λ (n : ℕ). IsCivilDate (pos n) plain.month plain.day) (sym year) dated.is_date

pub returns-clause-value : goal.returns-clause-value
returns-clause-value c =
    let plain = c.in-Ok.plain in
    let dated = dated_by_number plain.year plain.month plain.day c.args.number (plain.year_in, plain.month_in, plain.day_in) (c.in-Ok.ensures.value ∙ read_back_wide c.args.number c.requires) c.requires in
    let year = ap nat_abs (read_back_year plain.year plain.year_in ∙ dated.year_is) in
    subst (λ (n : ℕ). c.args.number ≡ day_number (pos n) plain.month plain.day) (sym year) dated.value
