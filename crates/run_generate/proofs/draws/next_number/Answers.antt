use Rattle.std.proofs.Common.{◌*◌}
use Rattle.std.proofs.Math.Nat.{mod-add-mod}
use Rattle.run_generate.specs.Drawn.{next_number}
use Rattle.run_generate.proofs.draws.next_number.Goals as goal

pub returns : goal.returns
unfolding next_number
returns c = mod-add-mod (c.args.x * 6364136223846793005) 18446744073709551616 1442695040888963407
