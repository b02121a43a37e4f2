use Rattle.std.proofs.Common.{ap}
use Rattle.io_traits.specs.DiskState.{IsSync, IsQuiet}
use Rattle.io_memory.specs.Laws.{reads_are_image}
use Rattle.io_memory.proofs.Pushed.{sync_push, same_bytes, unsynced_as, ok_or_err, on_ok_map}
use Rattle.io_memory.proofs.disk_memory.MemoryDisk.record_sync.Goals as goal

pub returns-clause-told : goal.returns-clause-told
returns-clause-told c =
    let old = c.args.self.now in
    let new = c.note.new.self in
    same_bytes IsSync old.start.items new.start.items old.bytes.items new.bytes.items old.calls.items new.calls.items
    (ap (λ v. v.items) c.note.ensures.start) (ap (λ v. v.items) c.note.ensures.bytes)
    (ok_or_err c.note.result c.note.ensures.calls c.note.ensures.calls_err
    (λ is. (sync_push old.start.items old.bytes.items old.calls.items new.calls.items old.replayed (reads_are_image old.start.items old.bytes.items old.calls.items old.replayed) is).0)
    (λ is. unsynced_as old.start.items old.bytes.items old.calls.items new.calls.items is))

pub returns-clause-done : goal.returns-clause-done
returns-clause-done c =
    let old = c.args.self.now in
    let new = c.note.new.self in
    on_ok_map c.note.result (λ is. same_bytes (λ _ told. IsQuiet told) old.start.items new.start.items old.bytes.items new.bytes.items old.calls.items new.calls.items
    (ap (λ v. v.items) c.note.ensures.start) (ap (λ v. v.items) c.note.ensures.bytes)
    (sync_push old.start.items old.bytes.items old.calls.items new.calls.items old.replayed (reads_are_image old.start.items old.bytes.items old.calls.items old.replayed) is).1) c.note.ensures.calls
