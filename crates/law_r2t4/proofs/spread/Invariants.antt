use Rattle.std.proofs.Common.{◌≡◌, ◌++◌, take, drop, length}
use Rattle.law_r2t4.specs.Worksheet.{spread as spread_of}
use Rattle.law_r2t4.proofs.spread.Given as goal

abbrev pub invariant-loop-p : goal.invariant-loop-p
invariant-loop-p l = (spread_of l.fn.left l.amounts ≡ take l.p l.parts ++ spread_of l.rest (drop l.p l.amounts)) × (length l.parts ≡ 6)
