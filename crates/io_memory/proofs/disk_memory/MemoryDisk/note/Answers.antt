use Rattle.io_memory.proofs.Pushed.{noted}
use Rattle.io_memory.proofs.disk_memory.MemoryDisk.note.Goals as goal

pub invariant_of-self : goal.invariant_of-self
invariant_of-self c =
    let self = c.args.self.now in
    record { replayed = noted _ self.start.items self.bytes.items self.calls.items c.push.new.self.items c.args.call self.replayed c.requires c.push.ensures.items }
