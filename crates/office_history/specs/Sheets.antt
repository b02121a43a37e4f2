-- When a withdrawal can be worked out.
use Rattle.std.specs.Prelude.{◌≡◌, ◌≤◌, List, Some}
use Rattle.aid_types.specs.declared.number.Key.{Key}
use Rattle.aid_types.specs.declared.term.Term.{Term}
use Rattle.aid_filings.specs.declared.filing.Filing.{Filing}
use Rattle.aid_filings.specs.declared.filing.WithdrawFacts.{WithdrawFacts}
use Rattle.law_terms.specs.Terms.{IsLawful}
use Rattle.office_history.specs.Past.{the_term}

-- its term is on file and lawful, and its last day lies in the term
pub record CanBeWorkedOut (past : List Filing) (key : Key) (w : WithdrawFacts) : Type 0 where
  pub term : Term
  pub on_file : the_term past key.school w.year w.term ≡ Some term
  pub lawful : IsLawful term
  pub begun : term.first ≤ w.last
  pub inside : w.last ≤ term.last
