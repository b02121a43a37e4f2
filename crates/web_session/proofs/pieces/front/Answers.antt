use Rattle.std.proofs.Common.{arith, sym, refl}
use Rattle.std.proofs.lemmas.List.{take_all, length-take-le}
use Rattle.web_session.proofs.EndWalk.{take_le}
use Rattle.web_session.proofs.pieces.front.Goals as goal

pub slice_bounds-result-end : goal.slice_bounds-result-end
slice_bounds-result-end c = let t = c.if-held-le-HEAD_LIMIT.false in sym (length-take-le 16384 c.args.held.now (omega (arith, t)))

pub returns-then-held-le-HEAD_LIMIT : goal.returns-then-held-le-HEAD_LIMIT
returns-then-held-le-HEAD_LIMIT c = record { front = sym (take_all 16384 c.args.held.now c.if-held-le-HEAD_LIMIT.true); within = omega arith }

pub returns-else-held-le-HEAD_LIMIT : goal.returns-else-held-le-HEAD_LIMIT
returns-else-held-le-HEAD_LIMIT c = record { front = refl; within = take_le 16384 c.args.held.now }
