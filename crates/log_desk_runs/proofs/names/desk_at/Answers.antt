use Rattle.std.proofs.Common.{of_calls, rules}
use Rattle.std.proofs.lemmas.Iterator.{YieldsList-from_slice}
use Rattle.std.proofs.lemmas.Iterator.Search.{find_from_yields_List}
use Rattle.log_desk_runs.specs.Names.{ends_at}
use Rattle.log_desk_runs.proofs.names.desk_at.Goals as goal

pub returns : goal.returns
returns g c =
    find_from_yields_List (ends_at c.args.position c.args.by) _ _ _ c.find.ensures.ran (YieldsList-from_slice c.args.desks.now c.iter.ensures.rest)
    (λ p answer after called. search (of_calls, rules))
