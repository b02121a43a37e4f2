use Rattle.std.proofs.Common.{◌≡◌, ◌∙◌, ◌∷◌, [], ◌++◌, ap, length, pos, rules, arith}
use Rattle.std.proofs.lemmas.List.{length-append}
use Rattle.format_kinds.proofs.Chain.{all_put}
use Rattle.format_kinds.proofs.InRange.{book_in_range}
use Rattle.format_kinds.specs.Book.{age_numbers, asset_numbers, bracket_numbers, ceiling_numbers, employment_numbers, form_number, numbers_of, payroll_numbers, pell_numbers, percent_numbers, poverty_numbers, protection_numbers, schedule_numbers}
use Rattle.format_kinds.proofs.put.put_book.Goals as goal

pub returns-clause-added : goal.returns-clause-added
unfolding numbers_of
returns-clause-added c =
    let first : c.add_numbers.new.numbers.items ≡ c.args.numbers.now.items ++ (form_number c.args.book.now.ceiling ∷ pos c.args.book.now.year ∷ []) = search rules in
    all_put c.args.numbers.now.items c.add_numbers.new.numbers.items c.put_pell_figures.new.numbers.items c.put_percents.new.numbers.items c.put_poverty.new.numbers.items c.put_payroll.new.numbers.items c.put_protection.new.numbers.items c.put_employment.new.numbers.items c.put_asset_rates.new.numbers.items c.put_brackets.new.numbers.items c.put_ages.new.numbers.items c.put_schedule.new.numbers.items c.put_brackets-2.new.numbers.items c.put_ceiling.new.numbers.items
    (form_number c.args.book.now.ceiling ∷ pos c.args.book.now.year ∷ []) (pell_numbers c.args.book.now.pell) (percent_numbers c.args.book.now.percent) (poverty_numbers c.args.book.now.poverty) (payroll_numbers c.args.book.now.payroll) (protection_numbers c.args.book.now.protection) (employment_numbers c.args.book.now.employment) (asset_numbers c.args.book.now.assets) (bracket_numbers c.args.book.now.business) (age_numbers c.args.book.now.age) (schedule_numbers c.args.book.now.schedule) (bracket_numbers c.args.book.now.bracket) (ceiling_numbers c.args.book.now.ceiling)
    first c.put_pell_figures.ensures.added c.put_percents.ensures.added c.put_poverty.ensures.added c.put_payroll.ensures.added c.put_protection.ensures.added c.put_employment.ensures.added c.put_asset_rates.ensures.added (c.put_brackets.ensures.added ∙ ap (λ rows. c.put_asset_rates.new.numbers.items ++ bracket_numbers rows) c.as_slice.ensures.rows) (c.put_ages.ensures.added ∙ ap (λ rows. c.put_brackets.new.numbers.items ++ age_numbers rows) c.as_slice-2.ensures.rows) c.put_schedule.ensures.added (c.put_brackets-2.ensures.added ∙ ap (λ rows. c.put_schedule.new.numbers.items ++ bracket_numbers rows) c.as_slice-3.ensures.rows) c.put_ceiling.ensures.added

pub returns-clause-in_range : goal.returns-clause-in_range
returns-clause-in_range c =
    book_in_range c.args.book.now (let year = c.number.ensures.in_range in search rules)
    (record { few = c.as_slice.ensures.few; in_range = c.as_slice.ensures.in_range; marginal = c.as_slice.ensures.marginal })
    (record { few = c.as_slice-2.ensures.few; in_range = c.as_slice-2.ensures.in_range; by_age = c.as_slice-2.ensures.by_age })
    (record { few = c.as_slice-3.ensures.few; in_range = c.as_slice-3.ensures.in_range; marginal = c.as_slice-3.ensures.marginal })

pub returns-clause-few : goal.returns-clause-few
returns-clause-few c =
    let total = ap length (returns-clause-added c) in
    let parts = length-append c.args.numbers.now.items (numbers_of c.args.book.now) in
    omega (arith, total, parts)
