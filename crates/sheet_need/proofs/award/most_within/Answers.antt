use Rattle.std.proofs.Common.{◌≤ℤ◌, ℤ, rules, subst, sym, ap, ◌∙◌, w64, to_z, of_z, FitsSigned}
use Rattle.std.specs.Int.{w128}
use Rattle.std.specs.Prelude.{IsTrue, ◌↔◌}
use Rattle.std.proofs.lemmas.Int.{to_z-of_z}
use Rattle.law_pell.specs.Award.{is_within}
use Rattle.sheet_need.specs.NeedEntries.{most_within}
use Rattle.sheet_need.proofs.NeedPieces.{greatest_within}
use Rattle.sheet_need.proofs.award.most_within.Goals as goal

pub returns : goal.returns
returns c =
    let p = c.args.percent in
    let g = c.args.guideline in
    let fits : FitsSigned w128 c.hundredth.result = search rules in
    let value = to_z-of_z w128 c.hundredth.result fits ∙ c.hundredth.ensures ∙ ap (λ (k : ℤ). most_within k (to_z w64 (of_z w64 g))) (to_z-of_z w64 p c.ranges.percent)
    ∙ ap (λ (k : ℤ). most_within p k) (to_z-of_z w64 g c.ranges.guideline) in
    record {
      value = value;
      greatest = λ above under income. subst (λ (z : ℤ). IsTrue (is_within income p g) ↔ (income ≤ℤ z)) (sym value) (greatest_within p g above under income);
    }
