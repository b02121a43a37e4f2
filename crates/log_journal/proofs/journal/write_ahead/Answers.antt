use Rattle.std.proofs.Common.{◌+◌, rules}
use Rattle.io_traits.proofs.Moments.{unwritten}
use Rattle.log_journal.proofs.Written.{nothing, none_written}
use Rattle.log_journal.proofs.journal.write_ahead.Goals as goal

pub returns-then-is_empty-clause-told : goal.returns-then-is_empty-clause-told
returns-then-is_empty-clause-told g c honest = unwritten _ _ (g.D.Disk.tells c.args.disk.now)

pub returns-then-is_empty-clause-done : goal.returns-then-is_empty-clause-done
returns-then-is_empty-clause-done g c honest =
    none_written (c.args.gate + 1) c.args.next.now (g.D.Disk.tells c.args.disk.now).reads (nothing c.args.next.now (search rules))
