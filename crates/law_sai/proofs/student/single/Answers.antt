use Rattle.std.proofs.Common.{w64, arith, lit<, ◌∙◌}
use Rattle.std.proofs.lemmas.Int.{ints, to_z-of_z}
use Rattle.aid_types.proofs.Machine.{machine}
use Rattle.law_sai.specs.Lines.{household_lines}
use Rattle.law_sai.proofs.student.single.Goals as goal

pub returns-clause-value : goal.returns-clause-value
returns-clause-value c =
    let book = c.args.book.now in
    let a = c.args.a.now in
    let age = to_z-of_z w64 c.age.result (omega (arith, ints)) ∙ c.age.ensures in
    let allowed = machine c.single_or_married.result _ c.single_or_married.ensures.in_range (lit< tt) ∙ c.single_or_married.ensures.value in
    let working = machine c.employment_if_married.result _ c.employment_if_married.ensures.in_range (lit< tt) ∙ c.employment_if_married.ensures.value in
    let rate = machine book.assets.no_dependents_rate 10000 (omega (arith, ints, book.assets.in_range.2)) (lit< tt) in
    c.income_and_assets.ensures.value ∙ (λ i. household_lines book a.own a.married (age i) (allowed i) (working i) (rate i))
