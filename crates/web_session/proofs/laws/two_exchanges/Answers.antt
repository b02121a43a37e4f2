use Rattle.web_session.proofs.OneExchange.{get_brings, post_brings}
use Rattle.web_session.proofs.laws.two_exchanges.Goals as goal

pub returns : goal.returns
returns c = record { get = get_brings; post = post_brings }
