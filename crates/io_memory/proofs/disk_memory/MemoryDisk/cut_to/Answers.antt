use Rattle.std.proofs.Common.{ap}
use Rattle.io_traits.specs.DiskState.{IsCut, Cut, Allow}
use Rattle.io_traits.proofs.Moments.{uncut}
use Rattle.io_memory.proofs.Pushed.{cut_push, cut_allows, same_told, new_start}
use Rattle.io_memory.proofs.disk_memory.MemoryDisk.cut_to.Goals as goal

pub returns-in_err-commit-clause-told : goal.returns-in_err-commit-clause-told
returns-in_err-commit-clause-told c =
    let old = c.args.self.now in
    let new = c.commit.new.self in
    same_told (IsCut c.args.len) old.start.items new.start.items old.bytes.items new.bytes.items old.calls.items new.calls.items (ap (λ v. v.items) c.commit.ensures.start) c.in_err-commit.ensures.bytes_err c.in_err-commit.ensures.calls_err (uncut c.args.len _)

pub returns-clause-told : goal.returns-clause-told
returns-clause-told c =
    let old = c.args.self.now in
    let new = c.commit.new.self in
    new_start (IsCut c.args.len) old.start.items new.start.items old.bytes.items new.bytes.items old.calls.items new.calls.items (ap (λ v. v.items) c.commit.ensures.start) (cut_push old.start.items old.bytes.items new.bytes.items old.calls.items new.calls.items c.args.len c.in_ok-left.left c.in_ok-commit.ensures.calls)

pub returns-clause-torn : goal.returns-clause-torn
returns-clause-torn c =
    let old = c.args.self.now in
    let new = c.commit.new.self in
    new_start (λ a b. Allow (Cut c.args.len) a.image b.image) old.start.items new.start.items old.bytes.items new.bytes.items old.calls.items new.calls.items (ap (λ v. v.items) c.commit.ensures.start) (cut_allows old.start.items old.bytes.items new.bytes.items old.calls.items new.calls.items c.args.len c.in_ok-left.left c.in_ok-commit.ensures.calls)
