use Rattle.std.proofs.Common.{rules, ap, ◌∙◌, w64, to_z, of_z, FitsSigned}
use Rattle.std.proofs.lemmas.Int.{to_z-of_z}
use Rattle.sheet_need.specs.NeedEntries.{income_label, worked}
use Rattle.sheet_need.specs.declared.entry.Label.{Label}
use Rattle.sheet_need.specs.declared.entry.Mark.TheVariants.{Blank}
use Rattle.sheet_need.proofs.award.income_line.Goals as goal

pub returns : goal.returns
returns c =
    let book = c.args.book.now in
    let fits : FitsSigned w64 c.income-income.result = search rules in
    let dollars = to_z-of_z w64 c.income-income.result fits ∙ c.income-income.ensures in
    c.worked.ensures ∙ ap (λ (k : Label). worked Blank k (to_z w64 (of_z w64 c.income-income.result))) c.income_label-label.ensures
    ∙ ap (worked Blank (income_label c.args.formula book)) dollars
