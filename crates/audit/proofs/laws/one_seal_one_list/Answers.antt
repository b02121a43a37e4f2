use Rattle.audit.proofs.SealedLists.{one_seal}
use Rattle.audit.proofs.laws.one_seal_one_list.Goals as goal

pub returns : goal.returns
returns c = one_seal
