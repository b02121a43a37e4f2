use Rattle.std.proofs.Common.{ap}
use Rattle.io_traits.specs.DiskState.{IsRead}
use Rattle.io_memory.specs.declared.call.DiskCall.TheVariants.{FailedSync}
use Rattle.io_memory.proofs.Pushed.{look_push, looked_as, same_bytes, ok_or_err}
use Rattle.io_memory.proofs.disk_memory.MemoryDisk.fail_sync.Goals as goal

pub returns-clause-told : goal.returns-clause-told
returns-clause-told c =
    let old = c.args.self.now in
    let new = c.note.new.self in
    let read = same_bytes IsRead old.start.items new.start.items old.bytes.items new.bytes.items old.calls.items new.calls.items
    (ap (λ v. v.items) c.note.ensures.start) (ap (λ v. v.items) c.note.ensures.bytes)
    (ok_or_err c.note.result c.note.ensures.calls c.note.ensures.calls_err
    (λ is. look_push old.start.items old.bytes.items old.calls.items new.calls.items FailedSync tt is)
    (λ is. looked_as old.start.items old.bytes.items old.calls.items new.calls.items is)) in
    record { reads = read.reads; images = read.images; time = read.time }

pub returns-clause-failed : goal.returns-clause-failed
returns-clause-failed c =
    let old = c.args.self.now in
    let new = c.note.new.self in
    let read = same_bytes IsRead old.start.items new.start.items old.bytes.items new.bytes.items old.calls.items new.calls.items
    (ap (λ v. v.items) c.note.ensures.start) (ap (λ v. v.items) c.note.ensures.bytes)
    (ok_or_err c.note.result c.note.ensures.calls c.note.ensures.calls_err
    (λ is. look_push old.start.items old.bytes.items old.calls.items new.calls.items FailedSync tt is)
    (λ is. looked_as old.start.items old.bytes.items old.calls.items new.calls.items is)) in
    read.keeps
