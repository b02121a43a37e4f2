use Rattle.std.proofs.Common.{◌++◌, [], ◌∷◌, rules, sym, ap, ◌∙◌}
use Rattle.std.proofs.lemmas.List.{append-nil}
use Rattle.lock_tests.specs.declared.counter.Counter.{Counter}
use Rattle.lock_tests.proofs.Counted.{waited, goes_nowhere, goes_leaves, goes_admits}
use Rattle.lock_tests.proofs.counter.CounterLockedState.submit.Goals as goal
use Rattle.lock_tests.proofs.counter.CounterLockedState.submit.Goals.{in-Some+else-not-poke, in_default}

pub returns-then-not-poke-clause-goes : goal.returns-then-not-poke-clause-goes
returns-then-not-poke-clause-goes g c =
    goes_nowhere c.args.self.now.log.items c.reserve.new.self.items [] c.args.self.now.waiting c.args.operation (g.D.Device.faults c.args.self.now.device) (g.D.Device.faults c.poke.new.self) (g.D.Device.honest c.args.self.now.device) (g.D.Device.honest c.poke.new.self) c.len.result (search rules) c.in-Some.entry c.in-Some.is c.reserve.ensures.items

pub returns-then-not-poke-2-clause-goes : goal.returns-then-not-poke-2-clause-goes
returns-then-not-poke-2-clause-goes g c =
    let log = c.args.self.now.log.items in
    elim c.match-self.branch [
      | in-Some+else-not-poke w ↦
          goes_leaves log c.match-self.self.log.items [] c.args.self.now.waiting c.args.operation (g.D.Device.faults c.args.self.now.device) (g.D.Device.faults c.poke-2.new.self) (g.D.Device.honest c.args.self.now.device) (g.D.Device.honest c.poke-2.new.self) c.len-then-not-poke-2.result (search rules)
          (ap (λ (t : Counter g.row.D.Denot). t.log.items) w.self-is ∙ (w.push_reserved.ensures.items ∙ (ap (λ l. l ++ w.in-Some.entry ∷ []) c.reserve.ensures.items ∙ ap (λ o. log ++ waited o) (sym w.in-Some.is))))
      | in_default w ↦
          goes_leaves log c.match-self.self.log.items [] c.args.self.now.waiting c.args.operation (g.D.Device.faults c.args.self.now.device) (g.D.Device.faults c.poke-2.new.self) (g.D.Device.honest c.args.self.now.device) (g.D.Device.honest c.poke-2.new.self) c.len-then-not-poke-2.result (search rules)
          (ap (λ (t : Counter g.row.D.Denot). t.log.items) w.self-is ∙ (c.reserve.ensures.items ∙ (sym (append-nil log) ∙ ap (λ o. log ++ waited o) (sym w.in_default.is))))
    ]

pub returns-clause-goes : goal.returns-clause-goes
returns-clause-goes g c =
    let log = c.args.self.now.log.items in
    elim c.match-self.branch [
      | in-Some+else-not-poke w ↦
          goes_admits log c.match-self.self.log.items c.push_reserved-2.new.self.items c.args.self.now.waiting c.args.operation (g.D.Device.faults c.args.self.now.device) (g.D.Device.faults c.poke-2.new.self) (g.D.Device.honest c.args.self.now.device) (g.D.Device.honest c.poke-2.new.self) c.len-2.result (search rules) c.match-self.self.waiting
          (ap (λ (t : Counter g.row.D.Denot). t.waiting) w.self-is)
          (ap (λ (t : Counter g.row.D.Denot). t.log.items) w.self-is ∙ (w.push_reserved.ensures.items ∙ (ap (λ l. l ++ w.in-Some.entry ∷ []) c.reserve.ensures.items ∙ ap (λ o. log ++ waited o) (sym w.in-Some.is))))
          c.push_reserved-2.ensures.items
      | in_default w ↦
          goes_admits log c.match-self.self.log.items c.push_reserved-2.new.self.items c.args.self.now.waiting c.args.operation (g.D.Device.faults c.args.self.now.device) (g.D.Device.faults c.poke-2.new.self) (g.D.Device.honest c.args.self.now.device) (g.D.Device.honest c.poke-2.new.self) c.len-2.result (search rules) c.match-self.self.waiting
          (ap (λ (t : Counter g.row.D.Denot). t.waiting) w.self-is ∙ w.in_default.is)
          (ap (λ (t : Counter g.row.D.Denot). t.log.items) w.self-is ∙ (c.reserve.ensures.items ∙ (sym (append-nil log) ∙ ap (λ o. log ++ waited o) (sym w.in_default.is))))
          c.push_reserved-2.ensures.items
    ]
