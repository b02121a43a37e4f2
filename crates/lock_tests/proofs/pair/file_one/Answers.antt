use Rattle.std.proofs.Common.{Some, ◌++◌, ap, ◌∙◌}
use Rattle.log_lock.proofs.Laws.{mine_after}
use Rattle.lock_tests.specs.Counts.{said}
use Rattle.lock_tests.proofs.Counted.{admitted_is}
use Rattle.lock_tests.proofs.pair.file_one.Goals as goal

pub returns-clause-mine : goal.returns-clause-mine
returns-clause-mine g c =
    mine_after (Some c.args.operation) (said c.submit-answer.result) _ c.args.handle c.submit-answer.new.handle c.submit-answer.ensures.turned ∙ ap (λ l. c.args.handle.mine ++ l) (admitted_is c.submit-answer.result c.args.operation)
