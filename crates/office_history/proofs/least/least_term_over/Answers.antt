use Rattle.std.proofs.Common.{reverse, ap}
use Rattle.std.specs.List.{filter}
use Rattle.office_history.specs.Past.{terms_on_file}
use Rattle.office_history.specs.Positions.{is_over, least_term, told_over}
use Rattle.office_history.proofs.LeastTerms.{none_found, nothing_found}
use Rattle.office_history.proofs.Terms.{told_none}
use Rattle.office_history.proofs.TermsOnFile.{over_found}
use Rattle.office_history.proofs.least.least_term_over.Goals as goal

pub returns-clause-none : goal.returns-clause-none
returns-clause-none c award student year =
    let past = reverse c.args.history.now in (
      λ e. none_found (is_over past award student year) (terms_on_file past)
          (told_none past award student year (least_term (filter (is_over past award student year) (terms_on_file past))) e),
      λ none. ap (told_over past award student year) (nothing_found (is_over past award student year) (terms_on_file past) none),
    )

pub returns-clause-least : goal.returns-clause-least
returns-clause-least c award student year t least =
    let past = reverse c.args.history.now in
    ap (told_over past award student year) (over_found past c.requires award student year t least)
