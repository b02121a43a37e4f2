use Rattle.std.proofs.Common.{sym, subst, ◌∙◌}
use Rattle.log_desks.specs.Shares.{IsBegun}
use Rattle.log_desks.proofs.Reaching.{begins}
use Rattle.web_workers.proofs.crew.open_workers.Goals as goal

pub new-requires-clause-reached : goal.new-requires-clause-reached
new-requires-clause-reached g c =
    begins g.D.Disk g.R.StateMachine.scheme g.M.Since.moment g.M.Since.already c.reserve.new.self
    (subst (IsBegun g.D.Disk g.M.Since.moment g.M.Since.already) (sym (c.reserve.ensures.disk ∙ c.new-shared.ensures.disk)) c.requires.begun)
