use Rattle.std.proofs.Common.{reverse}
use Rattle.office_history.proofs.TermsOnFile.{year_ordered}
use Rattle.office_history.proofs.least.terms_ordered.Goals as goal

pub returns : goal.returns
returns c = year_ordered (reverse c.args.history.now) c.requires
