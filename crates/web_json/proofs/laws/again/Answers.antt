use Rattle.web_json.proofs.FilingLemmas.{filing_again}
use Rattle.web_json.proofs.laws.again.Goals as goal

pub returns : goal.returns
returns c filing is = filing_again filing is
