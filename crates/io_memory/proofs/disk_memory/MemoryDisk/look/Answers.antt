use Rattle.std.proofs.Common.{ap, subst}
use Rattle.io_traits.specs.DiskState.{IsRead}
use Rattle.io_memory.specs.Memory.{memory_tells}
use Rattle.io_memory.proofs.Pushed.{look_push, same_bytes}
use Rattle.io_memory.proofs.disk_memory.MemoryDisk.look.Goals as goal

pub returns-in-Ok-clause-told : goal.returns-in-Ok-clause-told
returns-in-Ok-clause-told c =
    let old = c.turn-turn.new.self in
    let new = c.note.new.self in
    subst (λ d. IsRead (memory_tells d) (memory_tells new)) c.turn-turn.ensures.same
    (same_bytes IsRead old.start.items new.start.items old.bytes.items new.bytes.items old.calls.items new.calls.items
    (ap (λ v. v.items) c.note.ensures.start) (ap (λ v. v.items) c.note.ensures.bytes)
    (look_push old.start.items old.bytes.items old.calls.items new.calls.items c.args.call c.requires c.in-Ok.ensures.calls))
