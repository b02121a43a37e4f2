use Rattle.log_journal.proofs.Unique.{undamaged}
use Rattle.log_journal.proofs.laws.undamaged.Goals as goal

pub returns : goal.returns
returns c header file payloads given place stands damaged = undamaged header file given payloads place stands damaged
