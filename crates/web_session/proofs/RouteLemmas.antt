-- The router of the three patterns.
use Rattle.std.proofs.Common.{◌≡◌, Result, Ok, Err}
use Rattle.matchit.specs.Rows.{RowsOf}
use Rattle.matchit.specs.Route.{Scan}
use Rattle.matchit.specs.Router.{RouteOf, InsertsRead}
use Rattle.matchit.specs.declared.error.InsertError.{InsertError}
use Rattle.web_session.specs.declared.call.Route.{Route}
use Rattle.web_session.specs.Calls.{placed_read}

-- an insert that succeeds adds the pattern
pub read_inserts : (p : Result Scan InsertError) (value : Route) (old new : RowsOf (RouteOf Route)) (u : Unit {0}) → InsertsRead p value old new (Ok u) → new ≡ placed_read p value old
read_inserts (Ok s) value old new u h = h.1
read_inserts (Err e) value old new u h = h.0
