use Rattle.web_session.proofs.NextRequestLemmas.{judges_unique}
use Rattle.web_session.proofs.laws.one_judgment.Goals as goal

pub returns : goal.returns
returns c = judges_unique
