use Rattle.std.proofs.Common.{sym, ◌∙◌, ap}
use Rattle.io_memory.specs.Calls.{reads_by, reads_after}
use Rattle.io_memory.specs.Laws.{reads_push}
use Rattle.io_memory.proofs.disk_memory.MemoryDisk.commit.Goals as goal

pub invariant_of-self-2 : goal.invariant_of-self-2
invariant_of-self-2 c =
    let self = c.args.self.now in
    record {
      replayed = c.requires.next ∙ ap (λ r. reads_by c.args.call r) self.replayed ∙ sym (reads_push self.calls.items c.args.call self.start.items)
          ∙ ap (λ l. reads_after self.start.items l) (sym c.in_ok-push.ensures.items);
    }
