use Rattle.aid_types.specs.Nearest.{half_up}
use Rattle.aid_types.proofs.NearestLemmas.{IsNearest-pos}
use Rattle.aid_types.proofs.nearest_whole.Goals as goal

pub returns-clause-nearest : goal.returns-clause-nearest
unfolding half_up
returns-clause-nearest c = IsNearest-pos c.args.n c.args.b c.requires.divisor
