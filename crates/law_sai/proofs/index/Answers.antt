use Rattle.std.proofs.Common.{◌≤ℤ◌, sym, subst, ap, ◌∙◌}
use Rattle.law_sai.specs.Index.{AreIndexLines, index_lines, lines_of}
use Rattle.law_sai.specs.declared.IndexLines.{IndexLines}
use Rattle.law_sai.proofs.IncomeLaws.{index_lines-rise}
use Rattle.law_sai.proofs.IndexLaws.{index_lines-are, index_lines-only, index_of_lines}
use Rattle.law_sai.proofs.index.Goals as goal

pub returns-clause-value : goal.returns-clause-value
returns-clause-value c = c.index_under.ensures.value ∙ ap (λ f. lines_of f c.args.book.now c.args.a.now) c.formula_of.ensures

pub returns-clause-lines : goal.returns-clause-lines
returns-clause-lines c = subst (AreIndexLines c.args.book.now c.args.a.now) (sym (returns-clause-value c)) (index_lines-are c.args.book.now c.args.a.now)

pub returns-clause-only : goal.returns-clause-only
returns-clause-only c = λ lines h. index_lines-only c.args.book.now c.args.a.now lines h ∙ sym (returns-clause-value c)

pub returns-clause-index : goal.returns-clause-index
returns-clause-index c = ap (λ (l : IndexLines). l.index) (returns-clause-value c) ∙ index_of_lines c.args.book.now c.args.a.now

pub returns-clause-rises : goal.returns-clause-rises
returns-clause-rises c = λ richer s h. subst (λ (l : IndexLines). l.index ≤ℤ (index_lines c.args.book.now richer).index) (sym (returns-clause-value c)) (index_lines-rise c.args.book.now c.args.a.now richer s h)
