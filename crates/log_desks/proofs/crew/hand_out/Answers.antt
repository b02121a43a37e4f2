use Rattle.log_desks.proofs.Gathering.{ready_of}
use Rattle.log_desks.proofs.crew.hand_out.Goals as goal

pub returns-clause-ready : goal.returns-clause-ready
returns-clause-ready g c =
    ready_of c.args.turns.now.id c.args.first.opening c.args.first c.split-rest.result.1 c.args.desk.now c.give.new.self c.requires.fresh c.split-rest.ensures.part c.give.ensures c.requires.open
