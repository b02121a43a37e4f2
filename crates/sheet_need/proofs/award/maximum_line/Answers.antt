use Rattle.std.proofs.Common.{rules, ℤ, ap, ◌∙◌, w64, to_z, of_z, FitsSigned}
use Rattle.std.proofs.lemmas.Int.{to_z-of_z}
use Rattle.law_pell.specs.Award.{maximum_percent}
use Rattle.sheet_need.specs.NeedEntries.{percent_entry}
use Rattle.sheet_need.specs.declared.entry.Label.TheVariants.{MaximumUpTo}
use Rattle.sheet_need.proofs.award.maximum_line.Goals as goal

pub returns : goal.returns
returns c =
    let percent_fits : FitsSigned w64 c.maximum_percent-percent.result = search rules in
    let guideline_fits : FitsSigned w64 c.guideline.result = search rules in
    let percent = to_z-of_z w64 c.maximum_percent-percent.result percent_fits ∙ c.maximum_percent-percent.ensures in
    let guideline = to_z-of_z w64 c.guideline.result guideline_fits ∙ c.guideline.ensures in
    c.percent_line.ensures ∙ ap (λ (k : ℤ). percent_entry MaximumUpTo k (to_z w64 (of_z w64 c.guideline.result))) percent
    ∙ ap (λ (k : ℤ). percent_entry MaximumUpTo (maximum_percent c.args.book.now.percent c.args.formula c.args.a.now) k) guideline
