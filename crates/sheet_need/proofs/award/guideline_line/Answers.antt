use Rattle.std.proofs.Common.{rules, ◌≡◌, ℤ, pos, ap, ◌∙◌, w64, to_z, of_z, FitsSigned, arith}
use Rattle.std.proofs.lemmas.Int.{ints, to_z-of_z}
use Rattle.sheet_need.specs.NeedEntries.{worked_with}
use Rattle.sheet_need.specs.declared.entry.Label.TheVariants.{Guideline}
use Rattle.sheet_need.specs.declared.entry.Mark.TheVariants.{Blank}
use Rattle.sheet_need.specs.declared.entry.Part.TheVariants.{Number}
use Rattle.sheet_need.proofs.award.guideline_line.Goals as goal

pub returns : goal.returns
returns c =
    let book = c.args.book.now in
    let a = c.args.a.now in
    let size : to_z w64 (of_z w64 c.from-size.result) ≡ pos a.family = omega (arith, ints, c.from-size.ensures, a.in_range) in
    let fits : FitsSigned w64 c.guideline-guideline.result = search rules in
    let dollars = to_z-of_z w64 c.guideline-guideline.result fits ∙ c.guideline-guideline.ensures in
    c.worked_with.ensures ∙ ap (λ (k : ℤ). worked_with Blank Guideline (Number k) (to_z w64 (of_z w64 c.guideline-guideline.result))) size
    ∙ ap (worked_with Blank Guideline (Number (pos a.family))) dollars
