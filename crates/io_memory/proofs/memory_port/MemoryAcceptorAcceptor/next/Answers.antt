use Rattle.std.proofs.Common.{rules, refl, ◌≡◌, [], ◌∷◌, ◌++◌}
use Rattle.io_memory.specs.Wires.{Wire}
use Rattle.io_memory.specs.Held.{IsUnused}
use Rattle.io_memory.proofs.Handing.{handed}
use Rattle.io_memory.proofs.memory_port.MemoryAcceptorAcceptor.next.Goals as goal

pub returns-in-Some-clause-handed : goal.returns-in-Some-clause-handed
returns-in-Some-clause-handed c =
    let unused : IsUnused c.in-Some.link = search rules in
    let parts : c.self.inside.links.items ≡ c.pop.new.self.items ++ c.in-Some.link ∷ [] = search rules in
    record {
      honest = refl;
      empty = unused.empty;
      bytes = rw (← c.self.view_is) (handed (λ (w : Wire). w.feed.left) c.self.inside.links.items c.pop.new.self.items c.in-Some.link parts);
      out = search rules;
      closed = search rules;
    }
