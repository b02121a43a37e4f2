use Rattle.std.proofs.Common.{◌≡◌, ℕ, ◌*◌, ◌<◌, ◌≤◌, None, List, subst, ap, ◌∙◌}
use Rattle.aid_filings.specs.declared.filing.Filing.{Filing}
use Rattle.aid_types.specs.RuleLines.{first_broken}
use Rattle.office_history.specs.Answer.{quote_of}
use Rattle.office_history.specs.Rules.{payment_rules}
use Rattle.office_index.specs.Register.{Register}
use Rattle.office_index.proofs.Quoted.{payable, unpayable}
use Rattle.office_index.proofs.office.Office.quote.Goals as goal

pub returns : goal.returns
returns c =
    let past = c.args.self.now.history in
    let a = c.args in
    let view : c.self.inside.indexed.history ≡ past = ap (λ (r : Register). r.history) c.self.view_is in
    let value : c.quote_on.result ≡ quote_of past a.school a.student a.year a.term =
    c.quote_on.ensures.value ∙ ap (λ (h : List Filing). quote_of h a.school a.student a.year a.term) view in
    let below = subst (λ (h : List Filing). (dollars : ℕ) → 0 < dollars → 100 * dollars ≤ c.quote_on.result →
    first_broken (payment_rules h a.school a.student a.year a.term 3 (100 * dollars)) ≡ None) view
    c.quote_on.ensures.below in
    record {
      value = value;
      payable = λ filing dollars is some most. payable past filing a.school a.student a.year a.term dollars is (below dollars some most);
      greatest = λ filing dollars is above.
          unpayable past filing a.school a.student a.year a.term dollars is (subst (λ (n : ℕ). n < 100 * dollars) value above);
      at_most = c.quote_on.ensures.at_most;
    }
