use Rattle.std.proofs.Common.{ap}
use Rattle.io_traits.specs.DiskState.{IsWrite, Torn, Allow}
use Rattle.io_traits.proofs.Moments.{unwritten}
use Rattle.io_memory.proofs.Pushed.{write_push, write_allows, same_told, new_start}
use Rattle.io_memory.proofs.disk_memory.MemoryDisk.write.Goals as goal

pub returns-in_err-commit-clause-told : goal.returns-in_err-commit-clause-told
returns-in_err-commit-clause-told c =
    let old = c.args.self.now in
    let new = c.commit.new.self in
    same_told (IsWrite c.args.at c.args.n) old.start.items new.start.items old.bytes.items new.bytes.items old.calls.items new.calls.items (ap (λ v. v.items) c.commit.ensures.start) c.in_err-commit.ensures.bytes_err c.in_err-commit.ensures.calls_err (unwritten c.args.at c.args.n _)

pub returns-clause-told : goal.returns-clause-told
returns-clause-told c =
    let old = c.args.self.now in
    let new = c.commit.new.self in
    new_start (IsWrite c.args.at c.args.n) old.start.items new.start.items old.bytes.items new.bytes.items old.calls.items new.calls.items (ap (λ v. v.items) c.commit.ensures.start) (write_push old.start.items old.bytes.items new.bytes.items old.calls.items new.calls.items c.args.at c.args.n c.in_ok-left.left c.in_ok-commit.ensures.calls)

pub returns-clause-torn : goal.returns-clause-torn
returns-clause-torn c =
    let old = c.args.self.now in
    let new = c.commit.new.self in
    new_start (λ a b. Allow (Torn c.args.at c.args.n) a.image b.image) old.start.items new.start.items old.bytes.items new.bytes.items old.calls.items new.calls.items (ap (λ v. v.items) c.commit.ensures.start) (write_allows old.start.items old.bytes.items new.bytes.items old.calls.items new.calls.items c.args.at c.args.n c.in_ok-left.left c.in_ok-commit.ensures.calls)
