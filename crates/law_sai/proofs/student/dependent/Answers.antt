use Rattle.std.proofs.Common.{◌≡◌, pos, refl, sym, subst, arith, lit<, lit≤, ◌∙◌}
use Rattle.std.proofs.lemmas.Int.{ints}
use Rattle.aid_types.specs.Nearest.{share}
use Rattle.aid_types.proofs.Machine.{machine}
use Rattle.law_sai.proofs.Sums.{amount, answer, minus, minus_fits, no_greater, plus, three}
use Rattle.law_sai.specs.Index.{AreDependentLines, dependent_lines}
use Rattle.law_sai.proofs.IndexLaws.{dependent_lines-are}
use Rattle.law_sai.proofs.student.dependent.Goals as goal

pub overflow_sub-available : goal.overflow_sub-available
overflow_sub-available c =
    let book = c.args.book.now in
    let tax = answer 1 c.tax_allowance-tax.result _ c.tax_allowance-tax.ensures.in_range (lit≤ tt) refl in
    let payroll = answer 5 c.payroll_allowance-payroll.result _ c.payroll_allowance-payroll.ensures.in_range (lit≤ tt) refl in
    let protection = amount book.protection.dependent_student book.protection.in_range.0 in
    let shortfall = answer 280 c.shortfall-shortfall.result _ c.shortfall-shortfall.ensures.in_range (lit≤ tt) refl in
    let allowances = plus (plus (plus tax payroll (lit≤ tt)) protection (lit≤ tt)) shortfall (lit≤ tt) in
    minus_fits (answer 9 c.total_income-total.result _ c.total_income-total.ensures.in_range (lit≤ tt) refl) allowances (lit≤ tt)

pub returns : goal.returns
returns c =
    let book = c.args.book.now in
    let a = c.args.a.now in
    let side = a.own in
    let parent = c.args.parent.now in
    let total = answer 9 c.total_income-total.result _ c.total_income-total.ensures.in_range (lit≤ tt) c.total_income-total.ensures.value in
    let tax = answer 1 c.tax_allowance-tax.result _ c.tax_allowance-tax.ensures.in_range (lit≤ tt) c.tax_allowance-tax.ensures.value in
    let payroll = answer 5 c.payroll_allowance-payroll.result _ c.payroll_allowance-payroll.ensures.in_range (lit≤ tt) c.payroll_allowance-payroll.ensures.value in
    let protection = amount book.protection.dependent_student book.protection.in_range.0 in
    let shortfall = answer 280 c.shortfall-shortfall.result _ c.shortfall-shortfall.ensures.in_range (lit≤ tt) c.shortfall-shortfall.ensures.value in
    let allowances = plus (plus (plus tax payroll (lit≤ tt)) protection (lit≤ tt)) shortfall (lit≤ tt) in
    let available = minus total allowances (lit≤ tt) in
    let worth = three c.from-worth.result side.cash side.investments side.business side.in_range.13 side.in_range.14 side.in_range.15 c.from-worth.ensures in
    let rate = machine book.assets.dependent_rate 10000 (omega (arith, ints, book.assets.in_range.1)) (lit< tt) in
    let from_assets = answer 3 c.share.result _ (no_greater c.share.result worth c.share.ensures.no_greater) (lit≤ tt)
    (c.share.ensures.value ∙ (λ i. share (worth.is i) (rate i))) in
    let value : _ ≡ dependent_lines book a parent = λ i. record {
      total = total.is i;
      tax = tax.is i;
      payroll = payroll.is i;
      protection = protection.is i;
      employment = pos 0;
      allowances = allowances.is i;
      available = available.is i;
      business = pos 0;
      worth = worth.is i;
      asset_protection = pos 0;
      discretionary = worth.is i;
      from_assets = from_assets.is i;
      adjusted = pos 0;
      contribution = pos 0;
    } in
    record {
      lines = subst (AreDependentLines book a parent) (sym value) (dependent_lines-are book a parent);
      value = value;
      available_in_range = rw available.is available.most;
      assets_in_range = rw from_assets.is from_assets.most;
    }
