use Rattle.std.proofs.Common.{refl}
use Rattle.log_desks.proofs.Reaching.{begins_anyhow}
use Rattle.log_tests.proofs.waits.taken.Goals as goal

pub new-requires-clause-reached : goal.new-requires-clause-reached
new-requires-clause-reached g c = begins_anyhow _ _ _ _ refl (λ t file. tt) c.args.numbers
