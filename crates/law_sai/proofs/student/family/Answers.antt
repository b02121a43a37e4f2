use Rattle.std.proofs.Common.{w64, arith, lit<, ap, ◌∙◌}
use Rattle.std.proofs.lemmas.Int.{ints, to_z-of_z}
use Rattle.aid_types.proofs.Machine.{machine}
use Rattle.law_sai.specs.Lines.{assessed_lines, household_lines}
use Rattle.law_sai.proofs.student.family.Goals as goal

pub returns-clause-value : goal.returns-clause-value
returns-clause-value c =
    let book = c.args.book.now in
    let a = c.args.a.now in
    let age = to_z-of_z w64 c.age.result (omega (arith, ints)) ∙ c.age.ensures in
    let allowed = machine c.family_protection-protection.result _ c.family_protection-protection.ensures.in_range (lit< tt) ∙ c.family_protection-protection.ensures.value in
    let working = machine c.employment_allowance-employment.result _ c.employment_allowance-employment.ensures.in_range (lit< tt) ∙ c.employment_allowance-employment.ensures.value in
    let rate = machine book.assets.with_dependents_rate 10000 (omega (arith, ints, book.assets.in_range.3)) (lit< tt) in
    c.assessed.ensures.value ∙ ap (assessed_lines book) (c.income_and_assets-lines.ensures.value
    ∙ (λ i. household_lines book a.own a.married (age i) (allowed i) (working i) (rate i)))
