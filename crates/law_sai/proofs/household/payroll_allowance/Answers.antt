use Rattle.std.proofs.Common.{◌≡◌, ◌+ℤ◌, arith, lit<, ap, ◌∙◌}
use Rattle.std.proofs.lemmas.Int.{ints}
use Rattle.aid_types.proofs.Machine.{machine}
use Rattle.law_sai.specs.Household.{payroll_allowance, oasdi, medicare}
use Rattle.law_sai.proofs.household.payroll_allowance.Goals as goal

pub returns-clause-value : goal.returns-clause-value
unfolding payroll_allowance
returns-clause-value c =
    let p = c.args.payroll.now in
    let s = c.args.side.now in
    let earned_first : c.from.result ≡ s.earned_first = omega (arith, ints) in
    let earned_second : c.from-2.result ≡ s.earned_second = omega (arith, ints) in
    let first : c.oasdi-first.result ≡ oasdi p s.earned_first = c.oasdi-first.ensures.value ∙ ap (oasdi p) (machine c.from.result 99999999 (omega (arith, ints)) (omega arith) ∙ earned_first) in
    let second : c.oasdi-second.result ≡ oasdi p s.earned_second = c.oasdi-second.ensures.value ∙ ap (oasdi p) (machine c.from-2.result 99999999 (omega (arith, ints)) (omega arith) ∙ earned_second) in
    let both : c.medicare.result ≡ medicare p c.args.married (s.earned_first +ℤ s.earned_second) =
    c.medicare.ensures.value ∙ ap (medicare p c.args.married) (machine c.earned.result _ c.earned.ensures.in_range (lit< tt) ∙ c.earned.ensures.value) in
    omega (arith, ints)
