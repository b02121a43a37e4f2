use Rattle.std.proofs.Common.{rules}
use Rattle.run_generate.proofs.Founding.{at_school, at_autumn, at_spring}
use Rattle.run_generate.proofs.terms.founding_row.Goals as goal

pub returns-then-place-lt4 : goal.returns-then-place-lt4
returns-then-place-lt4 c = rw c.school.ensures (at_school c.args.year c.args.place (search rules))

pub returns-then-place-eq0 : goal.returns-then-place-eq0
returns-then-place-eq0 c = rw c.autumn_term.ensures (at_autumn c.args.year c.args.place (search rules) c.requires (search rules))

pub returns-else-place-eq0 : goal.returns-else-place-eq0
returns-else-place-eq0 c = rw c.spring_term.ensures (at_spring c.args.year c.args.place (search rules) c.requires (search rules))
