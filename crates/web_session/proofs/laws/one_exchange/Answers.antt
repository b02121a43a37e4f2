use Rattle.web_session.proofs.Brought.{one_telling, one_brought}
use Rattle.web_session.proofs.laws.one_exchange.Goals as goal

pub returns : goal.returns
returns c = record { telling = one_telling; brought = one_brought }
