use Rattle.std.proofs.Common.{sym, subst}
use Rattle.web_workers.specs.Workers.{HoldsHandle}
use Rattle.web_workers.proofs.all.work_all.Goals as goal

pub for_each_mut-requires-clause-accepts : goal.for_each_mut-requires-clause-accepts
for_each_mut-requires-clause-accepts g c = λ κs bounds i p lt at. subst (HoldsHandle c.args.turns.now.id) (sym at) (c.requires i p.now lt)
