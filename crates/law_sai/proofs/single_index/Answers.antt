use Rattle.std.proofs.Common.{refl, arith, lit≤, ap, ◌∙◌}
use Rattle.std.proofs.lemmas.Int.{ints}
use Rattle.aid_types.specs.declared.award.Formula.TheVariants.{B}
use Rattle.law_sai.proofs.Sums.{answer, plus}
use Rattle.law_sai.specs.Index.{income_contribution, indexed}
use Rattle.law_sai.proofs.single_index.Goals as goal

pub overflow_add-raw : goal.overflow_add-raw
overflow_add-raw c =
    let small = c.income_contribution-from_income.ensures.in_range 273 (omega (arith, ints, c.single-own.ensures.available_in_range)) in
    omega (arith, ints, c.single-own.ensures.assets_in_range)

pub returns-clause-value : goal.returns-clause-value
returns-clause-value c =
    let book = c.args.book.now in
    let own = c.single-own.ensures.value in
    let available = answer 273 c.single-own.result.available _ c.single-own.ensures.available_in_range (lit≤ tt) refl in
    let value = c.income_contribution-from_income.ensures.value ∙ ap (income_contribution book) available.is ∙ (λ i. income_contribution book (own i).available) in
    let small = c.income_contribution-from_income.ensures.in_range 273 (rw available.is available.most) in
    let from_income = answer 274 c.income_contribution-from_income.result _ small (lit≤ tt) value in
    let raw = plus from_income (answer 7 c.single-own.result.from_assets _ c.single-own.ensures.assets_in_range (lit≤ tt) (λ i. (own i).from_assets)) (lit≤ tt) in
    c.indexed.ensures.value ∙ (λ i. indexed B (c.no_lines.ensures i) (own i) (from_income.is i) (raw.is i))
