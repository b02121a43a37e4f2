use Rattle.web_json.proofs.BodyLemmas.{asked_filing}
use Rattle.web_json.proofs.operation.filing_ask.Goals as goal

pub returns-in-Ok : goal.returns-in-Ok
returns-in-Ok c = asked_filing c.args.school c.args.body.now c.in-Ok.filing c.in-Ok.ensures.filing
