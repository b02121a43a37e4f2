use Rattle.web_workers.proofs.Gathered.{found_room, ran}
use Rattle.web_workers.proofs.crew.close_workers.Goals as goal

pub returns-clause-ran : goal.returns-clause-ran
returns-clause-ran g c = ran c.args.turns.id c.args.rest.opening c.collect-handle.result c.args.workers.now _ c.collect-handle.ensures.gathers c.close.ensures.closes

pub returns-clause-found_room : goal.returns-clause-found_room
returns-clause-found_room g c = found_room c.args.turns.id c.args.rest.opening c.collect-handle.result c.args.workers.now _ c.args.rest.room c.collect-handle.ensures.room c.collect-handle.ensures.gathers c.close.ensures.closes
