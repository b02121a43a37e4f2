use Rattle.std.proofs.Common.{◌∙◌, ap}
use Rattle.std.specs.Prelude.{codes}
use Rattle.web_session.specs.declared.call.Route.TheVariants.{Filings, Quote, Standing}
use Rattle.web_session.specs.Calls.{with_route}
use Rattle.web_session.proofs.RouteLemmas.{read_inserts}
use Rattle.web_session.proofs.call.routes.Goals as goal

pub returns : goal.returns
returns c =
    let one = read_inserts _ Filings _ _ _ c.in_ok-insert.ensures in
    let two = read_inserts _ Quote _ _ _ c.in_ok-insert-2.ensures in
    let three = read_inserts _ Standing _ _ _ c.in_ok-insert-3.ensures in
    three
    ∙ ap (with_route (codes "/standing/{student}/{year}") Standing)
    (two ∙ ap (with_route (codes "/desks/{school}/quote/{student}/{year}/{term}") Quote) (one ∙ ap (with_route (codes "/desks/{school}/filings") Filings) c.new-router.ensures))
