use Rattle.std.proofs.Common.{reverse}
use Rattle.office_history.specs.Past.{terms_on_file}
use Rattle.office_history.specs.Positions.{least_code}
use Rattle.office_history.proofs.LeastNumbers.{code_tells, told_least, told_none}
use Rattle.office_history.proofs.TermsOnFile.{coded_terms}
use Rattle.office_history.proofs.least.least_code_found.Goals as goal

pub returns-clause-codes : goal.returns-clause-codes
returns-clause-codes c = coded_terms (reverse c.args.history.now) c.requires

pub returns-clause-none : goal.returns-clause-none
returns-clause-none c passes =
    let past = reverse c.args.history.now in
    told_none (λ t. t.school) passes (terms_on_file past) (least_code passes (terms_on_file past)) (code_tells passes (terms_on_file past) (coded_terms past c.requires))

pub returns-clause-least : goal.returns-clause-least
returns-clause-least c passes code =
    let past = reverse c.args.history.now in
    told_least (λ t. t.school) passes (terms_on_file past) (least_code passes (terms_on_file past)) code (code_tells passes (terms_on_file past) (coded_terms past c.requires))
