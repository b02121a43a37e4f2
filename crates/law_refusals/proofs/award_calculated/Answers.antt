use Rattle.std.proofs.Common.{◌≡◌, ◌∙◌, ℤ, ap, arith, to_z, of_z, w32, w64}
use Rattle.std.proofs.lemmas.Int.{ints}
use Rattle.law_pell.specs.Award.{calculated}
use Rattle.law_refusals.proofs.award_calculated.Goals as goal

pub returns-clause-value : goal.returns-clause-value
returns-clause-value c =
    let result : to_z w64 (of_z w64 c.calculated.result) ≡ c.calculated.result = omega (arith, ints, c.calculated.ensures.in_range) in
    let index : to_z w32 (of_z w32 c.args.index) ≡ c.args.index = omega (arith, ints, c.ranges.index.sfits) in
    result ∙ c.calculated.ensures.value ∙ ap (λ (i : ℤ). calculated c.args.book.now i) index
