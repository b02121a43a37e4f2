use Rattle.std.proofs.Common.{refl, arith, lit≤, ap, ◌∙◌}
use Rattle.std.proofs.lemmas.Int.{ints}
use Rattle.aid_types.specs.declared.award.Formula.TheVariants.{A}
use Rattle.law_sai.proofs.Sums.{answer, plus}
use Rattle.law_sai.specs.Index.{dependent_lines, income_contribution, indexed}
use Rattle.law_sai.proofs.dependent_index.Goals as goal

pub overflow_add-raw : goal.overflow_add-raw
overflow_add-raw c =
    let small = c.income_contribution-from_income.ensures.in_range 296 (omega (arith, ints, c.dependent-own.ensures.available_in_range)) in
    omega (arith, ints, c.parents-parent.ensures.contribution_in_range)

pub overflow_add-raw-2 : goal.overflow_add-raw-2
overflow_add-raw-2 c =
    let small = c.income_contribution-from_income.ensures.in_range 296 (omega (arith, ints, c.dependent-own.ensures.available_in_range)) in
    omega (arith, ints, c.parents-parent.ensures.contribution_in_range, c.dependent-own.ensures.assets_in_range)

pub returns-clause-value : goal.returns-clause-value
returns-clause-value c =
    let book = c.args.book.now in
    let parent = c.parents-parent.ensures.value in
    let own = c.dependent-own.ensures.value ∙ ap (dependent_lines book c.args.a.now) parent in
    let contribution = answer 282 c.parents-parent.result.contribution _ c.parents-parent.ensures.contribution_in_range (lit≤ tt) (λ i. (parent i).contribution) in
    let available = answer 296 c.dependent-own.result.available _ c.dependent-own.ensures.available_in_range (lit≤ tt) refl in
    let value = c.income_contribution-from_income.ensures.value ∙ ap (income_contribution book) available.is ∙ (λ i. income_contribution book (own i).available) in
    let small = c.income_contribution-from_income.ensures.in_range 296 (rw available.is available.most) in
    let from_income = answer 297 c.income_contribution-from_income.result _ small (lit≤ tt) value in
    let from_assets = answer 3 c.dependent-own.result.from_assets _ c.dependent-own.ensures.assets_in_range (lit≤ tt) (λ i. (own i).from_assets) in
    let raw = plus (plus contribution from_income (lit≤ tt)) from_assets (lit≤ tt) in
    c.indexed.ensures.value ∙ (λ i. indexed A (parent i) (own i) (from_income.is i) (raw.is i))
