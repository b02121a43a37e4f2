use Rattle.std.proofs.Common.{arith}
use Rattle.office_updates.proofs.after_years.moved_year.Goals as goal

pub plus-requires : goal.plus-requires
plus-requires g c = λ p. omega (arith, c.requires.nets p, c.requires.paid p)
