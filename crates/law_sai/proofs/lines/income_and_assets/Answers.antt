use Rattle.std.proofs.Common.{◌≡◌, pos, to_z, of_z, w64, refl, sym, subst, arith, lit≤, ap, ◌∙◌}
use Rattle.std.proofs.lemmas.Int.{ints, to_z-of_z}
use Rattle.law_sai.specs.Household.{asset_contribution, asset_protection, business_worth}
use Rattle.law_sai.specs.Lines.{AreHouseholdLines, household_lines}
use Rattle.law_sai.proofs.LinesLaws.{household_lines-are}
use Rattle.law_sai.proofs.Sums.{amount, answer, minus, minus_fits, no_greater, plus, three}
use Rattle.law_sai.proofs.lines.income_and_assets.Goals as goal

pub overflow_sub-available : goal.overflow_sub-available
overflow_sub-available c =
    let tax = answer 1 c.tax_allowance-tax.result _ c.tax_allowance-tax.ensures.in_range (lit≤ tt) refl in
    let payroll = answer 5 c.payroll_allowance-payroll.result _ c.payroll_allowance-payroll.ensures.in_range (lit≤ tt) refl in
    let protection = answer 256 c.args.protection _ c.requires.protection_in_range (lit≤ tt) refl in
    let employment = answer 2 c.args.employment _ c.requires.employment_in_range (lit≤ tt) refl in
    let allowances = plus (plus (plus tax payroll (lit≤ tt)) protection (lit≤ tt)) employment (lit≤ tt) in
    minus_fits (answer 9 c.total_income-total.result _ c.total_income-total.ensures.in_range (lit≤ tt) refl) allowances (lit≤ tt)

pub returns : goal.returns
returns c =
    let book = c.args.book.now in
    let side = c.args.side.now in
    let total = answer 9 c.total_income-total.result _ c.total_income-total.ensures.in_range (lit≤ tt) c.total_income-total.ensures.value in
    let tax = answer 1 c.tax_allowance-tax.result _ c.tax_allowance-tax.ensures.in_range (lit≤ tt) c.tax_allowance-tax.ensures.value in
    let payroll = answer 5 c.payroll_allowance-payroll.result _ c.payroll_allowance-payroll.ensures.in_range (lit≤ tt) c.payroll_allowance-payroll.ensures.value in
    let protection = answer 256 c.args.protection _ c.requires.protection_in_range (lit≤ tt) refl in
    let employment = answer 2 c.args.employment _ c.requires.employment_in_range (lit≤ tt) refl in
    let allowances = plus (plus (plus tax payroll (lit≤ tt)) protection (lit≤ tt)) employment (lit≤ tt) in
    let available = minus total allowances (lit≤ tt) in
    let said : to_z w64 (of_z w64 c.from.result) ≡ side.business = omega (arith, ints) in
    let business = answer 3 c.business_worth-business.result _ c.business_worth-business.ensures.in_range (lit≤ tt)
    (c.business_worth-business.ensures.value ∙ ap (business_worth book.business) said) in
    let owned = three c.from-2.result side.support side.cash side.investments side.in_range.12 side.in_range.13 side.in_range.14 c.from-2.ensures in
    let worth = plus owned business (lit≤ tt) in
    let protected_most = (amount c.asset_protection-asset_protection.result c.asset_protection-asset_protection.ensures.in_range).most in
    let protected = answer 1 c.asset_protection-asset_protection.result _ protected_most (lit≤ tt)
    (c.asset_protection-asset_protection.ensures.value ∙ ap (asset_protection book.age c.args.married) (to_z-of_z w64 c.args.age c.ranges.age)) in
    let discretionary = minus worth protected (lit≤ tt) in
    let from_assets = answer 7 c.asset_contribution.result _ (no_greater c.asset_contribution.result discretionary c.asset_contribution.ensures.no_greater) (lit≤ tt)
    (c.asset_contribution.ensures.value ∙ (λ i. asset_contribution (discretionary.is i) (to_z-of_z w64 c.args.rate c.ranges.rate i))) in
    let value : _ ≡ household_lines book side c.args.married c.args.age c.args.protection c.args.employment c.args.rate = λ i. record {
      total = total.is i;
      tax = tax.is i;
      payroll = payroll.is i;
      protection = protection.is i;
      employment = employment.is i;
      allowances = allowances.is i;
      available = available.is i;
      business = business.is i;
      worth = worth.is i;
      asset_protection = protected.is i;
      discretionary = discretionary.is i;
      from_assets = from_assets.is i;
      adjusted = pos 0;
      contribution = pos 0;
    } in
    record {
      lines = subst (AreHouseholdLines book side c.args.married c.args.age c.args.protection c.args.employment c.args.rate) (sym value) (household_lines-are book side c.args.married c.args.age c.args.protection c.args.employment c.args.rate);
      not_assessed = record { adjusted = refl; contribution = refl };
      value = value;
      available_in_range = rw available.is available.most;
      assets_in_range = rw from_assets.is from_assets.most;
    }
