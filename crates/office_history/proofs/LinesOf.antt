-- The lines that the code tries on the facts of a history are the rules on it.
use Rattle.std.proofs.Common.{◌≡◌, ℕ, refl, ap, List}
use Rattle.aid_types.specs.declared.number.Key.{Key}
use Rattle.aid_filings.specs.declared.filing.Filing.{Filing}
use Rattle.aid_filings.specs.declared.filing.What.{What}
use Rattle.law_rules.specs.Lines.{broken_of, lines_of, payment_lines}
use Rattle.aid_types.specs.RuleLines.{first_broken}
use Rattle.office_history.specs.FactsOf.{facts_of, payment_facts}
use Rattle.office_history.specs.Rules.{payment_rules, rules_of}
use Rattle.office_history.specs.Answer.{breaks}

pub lines_are : (past : List Filing) (key : Key) (what : What) → lines_of (facts_of past key what) key.school what ≡ rules_of past key what
lines_are past key what = refl

-- so the first that is broken is the same
pub broken_is : (past : List Filing) (f : Filing) → broken_of (facts_of past f.key f.what) f.key f.what ≡ breaks past f
broken_is past f = ap first_broken (lines_are past f.key f.what)

-- those of a payment that isn't filed
pub payment_lines_are : (past : List Filing) (school student year term program : ℕ) →
    payment_lines (payment_facts past school student year term program) school student year term program
    ≡ payment_rules past school student year term program
payment_lines_are past school student year term program = refl
