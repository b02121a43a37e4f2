use Rattle.std.proofs.Common.{◌≡◌, ◌∙◌, ℤ, ap, arith, to_z, of_z, w32}
use Rattle.std.proofs.lemmas.Int.{ints}
use Rattle.law_pell.specs.Award.{ceiling_at}
use Rattle.law_refusals.proofs.ceiling_reached.Goals as goal

pub returns : goal.returns
returns c =
    let same : to_z w32 (of_z w32 c.args.index) ≡ c.args.index = omega (arith, ints, c.ranges.index.sfits) in
    c.ceiling_for.ensures.value ∙ ap (λ (index : ℤ). ceiling_at c.args.book.now c.args.a.now index) same
