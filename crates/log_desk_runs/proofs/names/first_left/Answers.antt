use Rattle.std.proofs.Common.{of_calls, rules}
use Rattle.std.proofs.lemmas.Iterator.{YieldsList-from_slice}
use Rattle.std.proofs.lemmas.Iterator.Search.{find_from_yields_List}
use Rattle.log_desk_runs.specs.Names.{leaves}
use Rattle.log_desk_runs.proofs.names.first_left.Goals as goal

pub returns : goal.returns
returns g c =
    find_from_yields_List (leaves g.C.EntryMatch.same c.args.position c.args.entry.now) _ _ _ c.find.ensures.ran (YieldsList-from_slice c.args.desks.now c.iter.ensures.rest)
    (λ p answer after called. search (of_calls, rules))
