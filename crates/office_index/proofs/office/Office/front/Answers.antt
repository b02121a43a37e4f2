use Rattle.std.proofs.Common.{◌≢◌, List, ap, arith, subst}
use Rattle.std.specs.List.{AllPairs}
use Rattle.aid_filings.specs.declared.filing.Filing.{Filing}
use Rattle.office_history.specs.Within.{IsWithinEveryLimit}
use Rattle.office_history.proofs.Legal.{legal_is_short, legal_keys_apart}
use Rattle.office_history.proofs.LegalWithin.{legal_within}
use Rattle.office_index.specs.Register.{Register}
use Rattle.office_index.proofs.office.Office.front.Goals as goal

pub returns-clause-few : goal.returns-clause-few
returns-clause-few c = omega (arith, c.front.ensures.value, legal_is_short c.self.inside.indexed.history c.front.ensures.legal)

pub returns-clause-within : goal.returns-clause-within
returns-clause-within c =
    subst IsWithinEveryLimit (ap (λ (r : Register). r.history) c.self.view_is) (legal_within c.self.inside.indexed.history c.front.ensures.legal)

pub returns-clause-keys : goal.returns-clause-keys
returns-clause-keys c =
    subst (λ (h : List Filing). AllPairs (λ f g. f.key ≢ g.key) h) (ap (λ (r : Register). r.history) c.self.view_is)
    (legal_keys_apart c.self.inside.indexed.history c.front.ensures.legal)
