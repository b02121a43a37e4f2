use Rattle.std.proofs.Common.{rules, subst, sym, ◌∙◌, ◌∷◌, [], pos}
use Rattle.format_kinds.proofs.Chain.{joined, left_age, left_assets, left_business, left_employment, left_form, left_payroll, left_pell, left_percent, left_poverty, left_protection, left_schedule, left_year, next_age, next_assets, next_bracket, next_business, next_ceiling, next_employment, next_payroll, next_pell, next_percent, next_poverty, next_protection, next_schedule, next_year, start_joined}
use Rattle.format_kinds.proofs.Equal.{same_book}
use Rattle.format_kinds.specs.Book.{AreBookNumbers, age_numbers, asset_numbers, bracket_numbers, ceiling_numbers, employment_numbers, form_number, numbers_of, payroll_numbers, pell_numbers, percent_numbers, poverty_numbers, protection_numbers, schedule_numbers}
use Rattle.format_kinds.specs.Sections.{last_slots}
use Rattle.format_kinds.proofs.read.book_of_numbers.Goals as goal

pub form-form-requires : goal.form-form-requires
form-form-requires c = subst AreBookNumbers (sym c.new-section.ensures) c.requires

pub year-year-requires : goal.year-year-requires
year-year-requires c = next_year (last_slots c.form-form.result) c.form-form.new.section (left_form c.new-section.result c.form-form.new.section c.form-form.result (subst AreBookNumbers (sym c.new-section.ensures) c.requires) c.form-form.ensures.numbers)

pub pell_figures-pell-requires : goal.pell_figures-pell-requires
pell_figures-pell-requires c = next_pell (last_slots c.form-form.result) c.year-year.new.section (left_year (last_slots c.form-form.result) c.form-form.new.section c.year-year.new.section c.year-year.result (left_form c.new-section.result c.form-form.new.section c.form-form.result (subst AreBookNumbers (sym c.new-section.ensures) c.requires) c.form-form.ensures.numbers) c.year-year.ensures)

pub percents-percent-requires : goal.percents-percent-requires
percents-percent-requires c = next_percent (last_slots c.form-form.result) c.pell_figures-pell.new.section (left_pell (last_slots c.form-form.result) c.year-year.new.section c.pell_figures-pell.new.section c.pell_figures-pell.result (left_year (last_slots c.form-form.result) c.form-form.new.section c.year-year.new.section c.year-year.result (left_form c.new-section.result c.form-form.new.section c.form-form.result (subst AreBookNumbers (sym c.new-section.ensures) c.requires) c.form-form.ensures.numbers) c.year-year.ensures) c.pell_figures-pell.ensures)

pub poverty-poverty-requires : goal.poverty-poverty-requires
poverty-poverty-requires c = next_poverty (last_slots c.form-form.result) c.percents-percent.new.section (left_percent (last_slots c.form-form.result) c.pell_figures-pell.new.section c.percents-percent.new.section c.percents-percent.result (left_pell (last_slots c.form-form.result) c.year-year.new.section c.pell_figures-pell.new.section c.pell_figures-pell.result (left_year (last_slots c.form-form.result) c.form-form.new.section c.year-year.new.section c.year-year.result (left_form c.new-section.result c.form-form.new.section c.form-form.result (subst AreBookNumbers (sym c.new-section.ensures) c.requires) c.form-form.ensures.numbers) c.year-year.ensures) c.pell_figures-pell.ensures) c.percents-percent.ensures)

pub payroll-payroll-requires : goal.payroll-payroll-requires
payroll-payroll-requires c = next_payroll (last_slots c.form-form.result) c.poverty-poverty.new.section (left_poverty (last_slots c.form-form.result) c.percents-percent.new.section c.poverty-poverty.new.section c.poverty-poverty.result (left_percent (last_slots c.form-form.result) c.pell_figures-pell.new.section c.percents-percent.new.section c.percents-percent.result (left_pell (last_slots c.form-form.result) c.year-year.new.section c.pell_figures-pell.new.section c.pell_figures-pell.result (left_year (last_slots c.form-form.result) c.form-form.new.section c.year-year.new.section c.year-year.result (left_form c.new-section.result c.form-form.new.section c.form-form.result (subst AreBookNumbers (sym c.new-section.ensures) c.requires) c.form-form.ensures.numbers) c.year-year.ensures) c.pell_figures-pell.ensures) c.percents-percent.ensures) c.poverty-poverty.ensures)

pub protection-protection-requires : goal.protection-protection-requires
protection-protection-requires c = next_protection (last_slots c.form-form.result) c.payroll-payroll.new.section (left_payroll (last_slots c.form-form.result) c.poverty-poverty.new.section c.payroll-payroll.new.section c.payroll-payroll.result (left_poverty (last_slots c.form-form.result) c.percents-percent.new.section c.poverty-poverty.new.section c.poverty-poverty.result (left_percent (last_slots c.form-form.result) c.pell_figures-pell.new.section c.percents-percent.new.section c.percents-percent.result (left_pell (last_slots c.form-form.result) c.year-year.new.section c.pell_figures-pell.new.section c.pell_figures-pell.result (left_year (last_slots c.form-form.result) c.form-form.new.section c.year-year.new.section c.year-year.result (left_form c.new-section.result c.form-form.new.section c.form-form.result (subst AreBookNumbers (sym c.new-section.ensures) c.requires) c.form-form.ensures.numbers) c.year-year.ensures) c.pell_figures-pell.ensures) c.percents-percent.ensures) c.poverty-poverty.ensures) c.payroll-payroll.ensures)

pub employment-employment-requires : goal.employment-employment-requires
employment-employment-requires c = next_employment (last_slots c.form-form.result) c.protection-protection.new.section (left_protection (last_slots c.form-form.result) c.payroll-payroll.new.section c.protection-protection.new.section c.protection-protection.result (left_payroll (last_slots c.form-form.result) c.poverty-poverty.new.section c.payroll-payroll.new.section c.payroll-payroll.result (left_poverty (last_slots c.form-form.result) c.percents-percent.new.section c.poverty-poverty.new.section c.poverty-poverty.result (left_percent (last_slots c.form-form.result) c.pell_figures-pell.new.section c.percents-percent.new.section c.percents-percent.result (left_pell (last_slots c.form-form.result) c.year-year.new.section c.pell_figures-pell.new.section c.pell_figures-pell.result (left_year (last_slots c.form-form.result) c.form-form.new.section c.year-year.new.section c.year-year.result (left_form c.new-section.result c.form-form.new.section c.form-form.result (subst AreBookNumbers (sym c.new-section.ensures) c.requires) c.form-form.ensures.numbers) c.year-year.ensures) c.pell_figures-pell.ensures) c.percents-percent.ensures) c.poverty-poverty.ensures) c.payroll-payroll.ensures) c.protection-protection.ensures)

pub asset_rates-assets-requires : goal.asset_rates-assets-requires
asset_rates-assets-requires c = next_assets (last_slots c.form-form.result) c.employment-employment.new.section (left_employment (last_slots c.form-form.result) c.protection-protection.new.section c.employment-employment.new.section c.employment-employment.result (left_protection (last_slots c.form-form.result) c.payroll-payroll.new.section c.protection-protection.new.section c.protection-protection.result (left_payroll (last_slots c.form-form.result) c.poverty-poverty.new.section c.payroll-payroll.new.section c.payroll-payroll.result (left_poverty (last_slots c.form-form.result) c.percents-percent.new.section c.poverty-poverty.new.section c.poverty-poverty.result (left_percent (last_slots c.form-form.result) c.pell_figures-pell.new.section c.percents-percent.new.section c.percents-percent.result (left_pell (last_slots c.form-form.result) c.year-year.new.section c.pell_figures-pell.new.section c.pell_figures-pell.result (left_year (last_slots c.form-form.result) c.form-form.new.section c.year-year.new.section c.year-year.result (left_form c.new-section.result c.form-form.new.section c.form-form.result (subst AreBookNumbers (sym c.new-section.ensures) c.requires) c.form-form.ensures.numbers) c.year-year.ensures) c.pell_figures-pell.ensures) c.percents-percent.ensures) c.poverty-poverty.ensures) c.payroll-payroll.ensures) c.protection-protection.ensures) c.employment-employment.ensures)

pub business-business-requires : goal.business-business-requires
business-business-requires c = next_business (last_slots c.form-form.result) c.asset_rates-assets.new.section (left_assets (last_slots c.form-form.result) c.employment-employment.new.section c.asset_rates-assets.new.section c.asset_rates-assets.result (left_employment (last_slots c.form-form.result) c.protection-protection.new.section c.employment-employment.new.section c.employment-employment.result (left_protection (last_slots c.form-form.result) c.payroll-payroll.new.section c.protection-protection.new.section c.protection-protection.result (left_payroll (last_slots c.form-form.result) c.poverty-poverty.new.section c.payroll-payroll.new.section c.payroll-payroll.result (left_poverty (last_slots c.form-form.result) c.percents-percent.new.section c.poverty-poverty.new.section c.poverty-poverty.result (left_percent (last_slots c.form-form.result) c.pell_figures-pell.new.section c.percents-percent.new.section c.percents-percent.result (left_pell (last_slots c.form-form.result) c.year-year.new.section c.pell_figures-pell.new.section c.pell_figures-pell.result (left_year (last_slots c.form-form.result) c.form-form.new.section c.year-year.new.section c.year-year.result (left_form c.new-section.result c.form-form.new.section c.form-form.result (subst AreBookNumbers (sym c.new-section.ensures) c.requires) c.form-form.ensures.numbers) c.year-year.ensures) c.pell_figures-pell.ensures) c.percents-percent.ensures) c.poverty-poverty.ensures) c.payroll-payroll.ensures) c.protection-protection.ensures) c.employment-employment.ensures) c.asset_rates-assets.ensures)

pub age-age-requires : goal.age-age-requires
age-age-requires c = next_age (last_slots c.form-form.result) c.business-business.new.section (left_business (last_slots c.form-form.result) c.asset_rates-assets.new.section c.business-business.new.section c.business-business.result (left_assets (last_slots c.form-form.result) c.employment-employment.new.section c.asset_rates-assets.new.section c.asset_rates-assets.result (left_employment (last_slots c.form-form.result) c.protection-protection.new.section c.employment-employment.new.section c.employment-employment.result (left_protection (last_slots c.form-form.result) c.payroll-payroll.new.section c.protection-protection.new.section c.protection-protection.result (left_payroll (last_slots c.form-form.result) c.poverty-poverty.new.section c.payroll-payroll.new.section c.payroll-payroll.result (left_poverty (last_slots c.form-form.result) c.percents-percent.new.section c.poverty-poverty.new.section c.poverty-poverty.result (left_percent (last_slots c.form-form.result) c.pell_figures-pell.new.section c.percents-percent.new.section c.percents-percent.result (left_pell (last_slots c.form-form.result) c.year-year.new.section c.pell_figures-pell.new.section c.pell_figures-pell.result (left_year (last_slots c.form-form.result) c.form-form.new.section c.year-year.new.section c.year-year.result (left_form c.new-section.result c.form-form.new.section c.form-form.result (subst AreBookNumbers (sym c.new-section.ensures) c.requires) c.form-form.ensures.numbers) c.year-year.ensures) c.pell_figures-pell.ensures) c.percents-percent.ensures) c.poverty-poverty.ensures) c.payroll-payroll.ensures) c.protection-protection.ensures) c.employment-employment.ensures) c.asset_rates-assets.ensures) c.business-business.ensures.numbers)

pub schedule-schedule-requires : goal.schedule-schedule-requires
schedule-schedule-requires c = next_schedule (last_slots c.form-form.result) c.age-age.new.section (left_age (last_slots c.form-form.result) c.business-business.new.section c.age-age.new.section c.age-age.result (left_business (last_slots c.form-form.result) c.asset_rates-assets.new.section c.business-business.new.section c.business-business.result (left_assets (last_slots c.form-form.result) c.employment-employment.new.section c.asset_rates-assets.new.section c.asset_rates-assets.result (left_employment (last_slots c.form-form.result) c.protection-protection.new.section c.employment-employment.new.section c.employment-employment.result (left_protection (last_slots c.form-form.result) c.payroll-payroll.new.section c.protection-protection.new.section c.protection-protection.result (left_payroll (last_slots c.form-form.result) c.poverty-poverty.new.section c.payroll-payroll.new.section c.payroll-payroll.result (left_poverty (last_slots c.form-form.result) c.percents-percent.new.section c.poverty-poverty.new.section c.poverty-poverty.result (left_percent (last_slots c.form-form.result) c.pell_figures-pell.new.section c.percents-percent.new.section c.percents-percent.result (left_pell (last_slots c.form-form.result) c.year-year.new.section c.pell_figures-pell.new.section c.pell_figures-pell.result (left_year (last_slots c.form-form.result) c.form-form.new.section c.year-year.new.section c.year-year.result (left_form c.new-section.result c.form-form.new.section c.form-form.result (subst AreBookNumbers (sym c.new-section.ensures) c.requires) c.form-form.ensures.numbers) c.year-year.ensures) c.pell_figures-pell.ensures) c.percents-percent.ensures) c.poverty-poverty.ensures) c.payroll-payroll.ensures) c.protection-protection.ensures) c.employment-employment.ensures) c.asset_rates-assets.ensures) c.business-business.ensures.numbers) c.age-age.ensures.numbers)

pub bracket_table-bracket-requires : goal.bracket_table-bracket-requires
bracket_table-bracket-requires c =
    let last = next_bracket (last_slots c.form-form.result) c.age-age.new.section c.schedule-schedule.new.section c.schedule-schedule.result (left_age (last_slots c.form-form.result) c.business-business.new.section c.age-age.new.section c.age-age.result (left_business (last_slots c.form-form.result) c.asset_rates-assets.new.section c.business-business.new.section c.business-business.result (left_assets (last_slots c.form-form.result) c.employment-employment.new.section c.asset_rates-assets.new.section c.asset_rates-assets.result (left_employment (last_slots c.form-form.result) c.protection-protection.new.section c.employment-employment.new.section c.employment-employment.result (left_protection (last_slots c.form-form.result) c.payroll-payroll.new.section c.protection-protection.new.section c.protection-protection.result (left_payroll (last_slots c.form-form.result) c.poverty-poverty.new.section c.payroll-payroll.new.section c.payroll-payroll.result (left_poverty (last_slots c.form-form.result) c.percents-percent.new.section c.poverty-poverty.new.section c.poverty-poverty.result (left_percent (last_slots c.form-form.result) c.pell_figures-pell.new.section c.percents-percent.new.section c.percents-percent.result (left_pell (last_slots c.form-form.result) c.year-year.new.section c.pell_figures-pell.new.section c.pell_figures-pell.result (left_year (last_slots c.form-form.result) c.form-form.new.section c.year-year.new.section c.year-year.result (left_form c.new-section.result c.form-form.new.section c.form-form.result (subst AreBookNumbers (sym c.new-section.ensures) c.requires) c.form-form.ensures.numbers) c.year-year.ensures) c.pell_figures-pell.ensures) c.percents-percent.ensures) c.poverty-poverty.ensures) c.payroll-payroll.ensures) c.protection-protection.ensures) c.employment-employment.ensures) c.asset_rates-assets.ensures) c.business-business.ensures.numbers) c.age-age.ensures.numbers) c.schedule-schedule.ensures in
    search rules

pub ceiling-ceiling-requires : goal.ceiling-ceiling-requires
ceiling-ceiling-requires c =
    let last = next_ceiling c.form-form.result c.schedule-schedule.new.section c.bracket_table-bracket.new.section c.bracket_table-bracket.result c.form-form.ensures.in_range (left_schedule (last_slots c.form-form.result) c.age-age.new.section c.schedule-schedule.new.section c.schedule-schedule.result (left_age (last_slots c.form-form.result) c.business-business.new.section c.age-age.new.section c.age-age.result (left_business (last_slots c.form-form.result) c.asset_rates-assets.new.section c.business-business.new.section c.business-business.result (left_assets (last_slots c.form-form.result) c.employment-employment.new.section c.asset_rates-assets.new.section c.asset_rates-assets.result (left_employment (last_slots c.form-form.result) c.protection-protection.new.section c.employment-employment.new.section c.employment-employment.result (left_protection (last_slots c.form-form.result) c.payroll-payroll.new.section c.protection-protection.new.section c.protection-protection.result (left_payroll (last_slots c.form-form.result) c.poverty-poverty.new.section c.payroll-payroll.new.section c.payroll-payroll.result (left_poverty (last_slots c.form-form.result) c.percents-percent.new.section c.poverty-poverty.new.section c.poverty-poverty.result (left_percent (last_slots c.form-form.result) c.pell_figures-pell.new.section c.percents-percent.new.section c.percents-percent.result (left_pell (last_slots c.form-form.result) c.year-year.new.section c.pell_figures-pell.new.section c.pell_figures-pell.result (left_year (last_slots c.form-form.result) c.form-form.new.section c.year-year.new.section c.year-year.result (left_form c.new-section.result c.form-form.new.section c.form-form.result (subst AreBookNumbers (sym c.new-section.ensures) c.requires) c.form-form.ensures.numbers) c.year-year.ensures) c.pell_figures-pell.ensures) c.percents-percent.ensures) c.poverty-poverty.ensures) c.payroll-payroll.ensures) c.protection-protection.ensures) c.employment-employment.ensures) c.asset_rates-assets.ensures) c.business-business.ensures.numbers) c.age-age.ensures.numbers) c.schedule-schedule.ensures) c.bracket_table-bracket.ensures.numbers in
    search rules

pub invariant_of-result : goal.invariant_of-result
invariant_of-result c = record {
  ceiling_in_range = c.ceiling-ceiling.ensures.in_range;
  business_over = c.business-business.ensures.over;
  business_base = c.business-business.ensures.base;
  age_start = c.age-age.ensures.start;
  bracket_base = let base = c.bracket_table-bracket.ensures.base in search rules;
}

pub returns-clause-value : goal.returns-clause-value
unfolding numbers_of
returns-clause-value c =
    let first = start_joined c.new-section.result c.form-form.new.section c.year-year.new.section c.form-form.result (form_number c.ceiling-ceiling.result) c.year-year.result c.form-form.ensures.numbers c.form-form.ensures.in_range c.year-year.ensures c.ceiling-ceiling.ensures.form in
    joined c.args.numbers.now c.year-year.new.section c.pell_figures-pell.new.section c.percents-percent.new.section c.poverty-poverty.new.section c.payroll-payroll.new.section c.protection-protection.new.section c.employment-employment.new.section c.asset_rates-assets.new.section c.business-business.new.section c.age-age.new.section c.schedule-schedule.new.section c.bracket_table-bracket.new.section
    (form_number c.ceiling-ceiling.result ∷ pos c.year-year.result ∷ []) (pell_numbers c.pell_figures-pell.result) (percent_numbers c.percents-percent.result) (poverty_numbers c.poverty-poverty.result) (payroll_numbers c.payroll-payroll.result) (protection_numbers c.protection-protection.result) (employment_numbers c.employment-employment.result) (asset_numbers c.asset_rates-assets.result) (bracket_numbers c.business-business.result) (age_numbers c.age-age.result) (schedule_numbers c.schedule-schedule.result) (bracket_numbers c.bracket_table-bracket.result) (ceiling_numbers c.ceiling-ceiling.result)
    (sym c.new-section.ensures ∙ first) c.pell_figures-pell.ensures c.percents-percent.ensures c.poverty-poverty.ensures c.payroll-payroll.ensures c.protection-protection.ensures c.employment-employment.ensures c.asset_rates-assets.ensures c.business-business.ensures.numbers c.age-age.ensures.numbers c.schedule-schedule.ensures c.bracket_table-bracket.ensures.numbers c.ceiling-ceiling.ensures.numbers

pub returns-clause-only : goal.returns-clause-only
returns-clause-only c b e = same_book b _ (e ∙ sym (returns-clause-value c))
