use Rattle.std.proofs.Common.{rules, ◌<◌, length, sym, subst}
use Rattle.lock_tests.specs.Desks.{HasHandle}
use Rattle.lock_tests.specs.declared.desks.Desk.{Desk}
use Rattle.lock_tests.proofs.desks.file_all.Goals as goal

pub for_each_mut-requires-clause-accepts : goal.for_each_mut-requires-clause-accepts
for_each_mut-requires-clause-accepts g c = λ κs bounds i p lt at. subst (λ (j : Desk). HasHandle c.args.turns.now.id j) (sym at) (c.requires i p.now lt)

pub returns-clause-handles : goal.returns-clause-handles
returns-clause-handles g c k d lt =
    let inside : k < length c.args.desks.now = search rules in
    let h = (c.for_each_mut.ensures k d inside).1 in
    subst (λ (j : Desk). HasHandle c.args.turns.now.id j) h.left h.call
