use Rattle.std.proofs.Common.{reverse}
use Rattle.office_history.specs.Past.{terms_on_file}
use Rattle.office_history.proofs.LeastTerms.{least_found, none_found, nothing_found}
use Rattle.office_history.proofs.least.least_term_found.Goals as goal

pub returns-clause-none : goal.returns-clause-none
returns-clause-none c passes =
    let terms = terms_on_file (reverse c.args.history.now) in
    (none_found passes terms, nothing_found passes terms)

pub returns-clause-least : goal.returns-clause-least
returns-clause-least c passes = least_found passes (terms_on_file (reverse c.args.history.now))
