use Rattle.std.proofs.Common.{◌≤◌, length, subst}
use Rattle.format_rows.proofs.ReadingLemmas.{means_few}
use Rattle.format_rows.proofs.rows.TextRows.at_most.Goals as goal

pub returns-clause-bound : goal.returns-clause-bound
returns-clause-bound g c = subst (λ rows. length rows ≤ c.self.inside.at_most) c.self.view_is (means_few g.M.RowReader.meaning c.self.inside.number c.self.inside.at_most _ c.self.invariant.1)
