-- The rules on a filing that comes after the filings past: the lines of its kind on the facts of that history, in their order.
-- docs/DEFINITIONS.md says what each keeps.
use Rattle.std.specs.Prelude.{ℕ, List}
use Rattle.aid_types.specs.declared.number.Key.{Key}
use Rattle.aid_filings.specs.declared.filing.Filing.{Filing}
use Rattle.aid_filings.specs.declared.filing.What.{What}
use Rattle.aid_types.specs.declared.line.RuleLine.{RuleLine}
use Rattle.law_rules.specs.Lines.{lines_of, payment_lines, standing_lines}
use Rattle.office_history.specs.FactsOf.{aid_facts, facts_of, payment_facts}

-- what a payment and a withdrawal begin with
abbrev pub standing_rules : List Filing → ℕ → ℕ → ℕ → ℕ → List RuleLine
standing_rules past school student year term = standing_lines (aid_facts past school student year term) school student year term

-- a payment of so many cents of a program
abbrev pub payment_rules : List Filing → ℕ → ℕ → ℕ → ℕ → ℕ → ℕ → List RuleLine
payment_rules past school student year term program cents =
    payment_lines (payment_facts past school student year term program) school student year term program cents

-- the rules on a filing, by its kind
abbrev pub rules_of : List Filing → Key → What → List RuleLine
rules_of past key what = lines_of (facts_of past key what) key.school what
