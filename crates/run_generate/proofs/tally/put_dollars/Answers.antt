use Rattle.std.proofs.Common.{rules, ◌≡◌, ℕ, ◌<◌, ◌^◌, decimal, arith}
use Rattle.aid_types.specs.Whole.{natural_text}
use Rattle.aid_types.proofs.WholeLemmas.{decimal-natural_text}
use Rattle.run_generate.proofs.tally.put_dollars.Goals as goal

short : (n : ℕ) → n < 2 ^ 128 → n < 10 ^ 64
short n h = omega arith

pub returns : goal.returns
returns c =
    let is : decimal c.args.dollars ≡ natural_text c.args.dollars = decimal-natural_text c.args.dollars (short c.args.dollars c.ranges.dollars.fits) in
    rw (← is) (search rules)
