use Rattle.std.proofs.Common.{ap, sym, ◌∙◌}
use Rattle.sorted_rows.proofs.Apart.{alike}
use Rattle.std.specs.Ordering.{is_eq}
use Rattle.office_index.proofs.lookup.find_row.Goals as goal

pub returns-in-Some-clause-row : goal.returns-in-Some-clause-row
returns-in-Some-clause-row g c =
    sym (alike g.met.K.Ord.total c.args.key.now c.row.result.now.0 c.args.rows.now.rows (ap is_eq (c.in-Some.ensures.found.same c.row.result.now c.row.ensures.here))
    ∙ c.row.ensures.own)
