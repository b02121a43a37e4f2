use Rattle.log_desks.proofs.Gathering.{ran}
use Rattle.log_desks.proofs.crew.close_desks.Goals as goal

pub returns-clause-ran : goal.returns-clause-ran
returns-clause-ran g c = ran c.args.turns.id c.args.rest.opening c.collect-handle.result c.args.desks.now _ c.collect-handle.ensures.gathers c.close.ensures.closes
