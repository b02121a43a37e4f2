use Rattle.std.proofs.Common.{◌≡◌, ℤ, ap, ◌∙◌, w32, w64, to_z, of_z, arith}
use Rattle.std.proofs.lemmas.Int.{ints}
use Rattle.law_pell.specs.Award.{calculated}
use Rattle.sheet_need.specs.NeedEntries.{calculated_label, worked_with}
use Rattle.sheet_need.specs.declared.entry.Label.{Label}
use Rattle.sheet_need.specs.declared.entry.Mark.TheVariants.{Blank}
use Rattle.sheet_need.specs.declared.entry.Part.TheVariants.{Number}
use Rattle.sheet_need.proofs.award.calculated_line.Goals as goal

pub returns : goal.returns
returns c =
    let book = c.args.book.now in
    let l = c.args.lines.now in
    let index : to_z w32 (of_z w32 l.index) ≡ l.index = omega (arith, ints, c.requires) in
    let held : to_z w64 (of_z w64 c.calculated.result) ≡ c.calculated.result = omega (arith, ints, c.calculated.ensures.in_range) in
    let maximum : to_z w64 (of_z w64 book.pell.maximum) ≡ book.pell.maximum = omega (arith, ints, book.pell.maximum_in_range) in
    let dollars = held ∙ c.calculated.ensures.value ∙ ap (calculated book) index in
    c.worked_with.ensures
    ∙ ap (λ (k : Label). worked_with Blank k (Number (to_z w64 (of_z w64 book.pell.maximum))) (to_z w64 (of_z w64 c.calculated.result))) c.calculated_label.ensures
    ∙ ap (λ (k : ℤ). worked_with Blank (calculated_label l) (Number k) (to_z w64 (of_z w64 c.calculated.result))) maximum
    ∙ ap (worked_with Blank (calculated_label l) (Number book.pell.maximum)) dollars
