use Rattle.std.proofs.Common.{ap, ◌∙◌}
use Rattle.office_history.specs.Rows.{filing_in}
use Rattle.office_index.specs.Register.{Register}
use Rattle.office_index.proofs.AtPosition.{stands_within}
use Rattle.office_index.proofs.office.Office.filing.Goals as goal

pub returns-clause-stands : goal.returns-clause-stands
returns-clause-stands c =
    stands_within c.args.self.now.history c.args.position c.filing.result
    (c.filing.ensures ∙ ap (λ (r : Register). filing_in r.history c.args.position) c.self.view_is)
