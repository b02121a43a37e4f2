use Rattle.std.proofs.Common.{w32, sym, subst, ◌∙◌}
use Rattle.std.proofs.lemmas.Int.{to_z-of_z}
use Rattle.law_pell.specs.Award.{IsDecidedByCase, IsScheduledAward, decision_under}
use Rattle.law_pell.specs.declared.Decision.{Decision}
use Rattle.law_pell.proofs.AwardLaws.{calculated-falls, decision_under-award, decision_under-by_case}
use Rattle.law_sai.specs.Formulas.{formula}
use Rattle.law_sai.specs.Index.{index_lines}
use Rattle.law_sai.proofs.IncomeLaws.{index_lines-rise}
use Rattle.law_pell.proofs.decide.Goals as goal

pub returns-clause-value : goal.returns-clause-value
returns-clause-value c =
    let book = c.args.book.now in
    let a = c.args.a.now in
    c.decide_under.ensures
    ∙ (λ i. decision_under (c.formula_of.ensures i) book a (to_z-of_z w32 c.args.index c.ranges.index i))

pub returns-clause-by_case : goal.returns-clause-by_case
returns-clause-by_case c =
    let book = c.args.book.now in
    let a = c.args.a.now in
    subst (IsDecidedByCase (formula book a) book a c.args.index) (sym (returns-clause-value c)) (decision_under-by_case (formula book a) book a c.args.index)

pub returns-clause-award : goal.returns-clause-award
returns-clause-award c =
    let book = c.args.book.now in
    let a = c.args.a.now in
    subst (λ (d : Decision). IsScheduledAward book.pell d.scheduled) (sym (returns-clause-value c)) (decision_under-award (formula book a) book a c.args.index)

pub returns-clause-falls : goal.returns-clause-falls
returns-clause-falls c = calculated-falls c.args.book.now c.args.index

pub returns-clause-falls_with_income : goal.returns-clause-falls_with_income
returns-clause-falls_with_income c = λ richer s h.
    calculated-falls c.args.book.now (index_lines c.args.book.now c.args.a.now).index (index_lines c.args.book.now richer).index
    (index_lines-rise c.args.book.now c.args.a.now richer s h)
