use Rattle.std.proofs.Common.{◌≡◌, pos, to_z, of_z, w64, sym, arith, lit<, ap, ◌∙◌, subst}
use Rattle.std.proofs.lemmas.Int.{ints}
use Rattle.aid_types.proofs.Machine.{machine}
use Rattle.law_sai.specs.Lines.{AreParentLines, assessed_lines, household_lines}
use Rattle.law_sai.proofs.LinesLaws.{parent_lines-are, parent_lines-only}
use Rattle.law_sai.proofs.lines.parents.Goals as goal

pub returns-clause-value : goal.returns-clause-value
returns-clause-value c =
    let book = c.args.book.now in
    let a = c.args.a.now in
    let age : to_z w64 (of_z w64 c.from.result) ≡ pos a.parent_age = omega (arith, ints, c.from.ensures) in
    let allowed = machine c.at-protection.result _ c.at-protection.ensures.in_range (lit< tt) ∙ c.at-protection.ensures.value in
    let working = machine c.employment_allowance-employment.result _ c.employment_allowance-employment.ensures.in_range (lit< tt) ∙ c.employment_allowance-employment.ensures.value in
    let rate = machine book.assets.parents_rate 10000 (omega (arith, ints, book.assets.in_range.0)) (lit< tt) in
    c.assessed.ensures.value ∙ ap (assessed_lines book) (c.income_and_assets-lines.ensures.value
    ∙ (λ i. household_lines book a.parents a.parents_married (age i) (allowed i) (working i) (rate i)))

pub returns-clause-lines : goal.returns-clause-lines
returns-clause-lines c = subst (AreParentLines c.args.book.now c.args.a.now) (sym (returns-clause-value c)) (parent_lines-are c.args.book.now c.args.a.now)

pub returns-clause-only : goal.returns-clause-only
returns-clause-only c = λ lines h. parent_lines-only c.args.book.now c.args.a.now lines h ∙ sym (returns-clause-value c)
