use Rattle.std.proofs.Common.{ap}
use Rattle.log_lock.specs.Passes.{Known}
use Rattle.log_desks.proofs.Gathering.{fresh_part}
use Rattle.log_machine.specs.declared.names.Filed.{Filed}
use Rattle.web_workers.proofs.crew.hand_out.Goals as goal

pub returns-clause-ready : goal.returns-clause-ready
returns-clause-ready g c = record {
  handle = c.split-rest.result.1;
  fresh = fresh_part c.args.turns.now.id c.args.first.opening c.args.first c.split-rest.result.1 1 c.requires.fresh c.split-rest.ensures.part;
  share = ap (λ (k : Known (Filed g.row.R-Entry.Denot)). k.allowance) c.split-rest.ensures.part;
  is = c.give.ensures;
}
