use Rattle.log_journal.proofs.Unique.{once}
use Rattle.log_journal.proofs.laws.once.Goals as goal

pub returns : goal.returns
returns c header file one other stands also = once header file one other stands also
