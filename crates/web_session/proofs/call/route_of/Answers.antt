use Rattle.web_session.proofs.CallLemmas.{no_text, found_text}
use Rattle.web_session.proofs.call.route_of.Goals as goal

pub returns-in_default : goal.returns-in_default
returns-in_default c = no_text c.args.target.now c.in_default.ensures.cases.0

pub returns-in-Ok-at : goal.returns-in-Ok-at
returns-in-Ok-at c = found_text c.args.target.now c.in-Ok.text.now _ _ c.in-Ok.ensures.cases.0 c.in-Ok.ensures.cases.1 c.requires c.in-Ok-at.ensures.found
