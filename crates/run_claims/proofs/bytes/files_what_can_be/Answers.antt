use Rattle.run_claims.proofs.FilingRanges.{can_be_filed, is_filing}
use Rattle.run_claims.proofs.bytes.files_what_can_be.Goals as goal

pub returns-clause-can_be_filed : goal.returns-clause-can_be_filed
returns-clause-can_be_filed c f fit = can_be_filed f fit

pub returns-clause-is_filing : goal.returns-clause-is_filing
returns-clause-is_filing c f can = is_filing f can
