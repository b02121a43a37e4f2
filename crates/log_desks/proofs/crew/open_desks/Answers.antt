use Rattle.std.proofs.Common.{sym, subst, ◌∙◌}
use Rattle.std.specs.List.{All}
use Rattle.log_desks.specs.Desks.{IsReady}
use Rattle.log_desks.specs.Shares.{IsBegun}
use Rattle.log_desks.proofs.Reaching.{begins}
use Rattle.log_desks.proofs.crew.open_desks.Goals as goal

pub returns-in-Ok-clause-ready : goal.returns-in-Ok-clause-ready
returns-in-Ok-clause-ready g c =
    subst (λ o. All (IsReady c.in-Ok.turns.id o) c.deal-rest.new.desks) (sym c.deal-rest.ensures.fresh.opening_is) c.deal-rest.ensures.ready

pub new-requires-clause-reached : goal.new-requires-clause-reached
new-requires-clause-reached g c =
    begins g.D.Disk g.R.StateMachine.scheme g.M.Since.moment g.M.Since.already c.reserve.new.self
    (subst (IsBegun g.D.Disk g.M.Since.moment g.M.Since.already) (sym (c.reserve.ensures.disk ∙ c.new-shared.ensures.disk)) c.requires.begun)
