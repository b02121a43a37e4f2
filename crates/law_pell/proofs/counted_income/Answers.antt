use Rattle.std.proofs.Common.{sym, ◌∙◌, arith}
use Rattle.std.proofs.lemmas.Int.{ints}
use Rattle.law_pell.proofs.CeilingLaws.{counted_above}
use Rattle.law_pell.proofs.counted_income.Goals as goal

pub returns-else-ceiling-eq0 : goal.returns-else-ceiling-eq0
returns-else-ceiling-eq0 c =
    let in_range = c.args.side.now.in_range in
    (omega (arith, ints, in_range)) ∙ sym (counted_above c.args.ceiling c.args.side.now (omega arith))
