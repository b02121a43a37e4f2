-- What is filed of work-study is told by its plain fields, since its facts have one proof at most.
use Rattle.std.proofs.Common.{◌≡◌, ℕ, ◌≤◌}
use Rattle.std.specs.Coded.{le_prop}
use denote.Struct.Props.{props}
use Rattle.aid_types.proofs.Same.{same_with_fact}
use Rattle.law_work.specs.declared.filing.DollarFacts.{DollarFacts}
use Rattle.law_work.specs.declared.filing.EarnFacts.{EarnFacts}
use Rattle.law_work.specs.declared.filing.FundFacts.{FundFacts}

-- the year and the dollars
abbrev pub FundParts : Type 0
FundParts = ℕ × ℕ

unfoldable pub fund_parts : FundFacts → FundParts
fund_parts x = (x.year, x.dollars)

pub fund_whole : (x y : FundFacts) → fund_parts x ≡ fund_parts y → x ≡ y
unfolding fund_parts
fund_whole x y e =
    let P : FundParts → Type 0 = λ b. b.1 ≤ 9999999 in
    let make : (b : FundParts) → P b → FundFacts = λ b p. record { year = b.0; dollars = b.1; in_range = p } in
    same_with_fact P make (λ b. hlevel (le_prop, props)) (fund_parts x) (fund_parts y) x.in_range y.in_range e

-- the student, the year and the dollars: of an award, or of a part that is released
abbrev pub DollarParts : Type 0
DollarParts = ℕ × (ℕ × ℕ)

unfoldable pub dollar_parts : DollarFacts → DollarParts
dollar_parts x = (x.student, (x.year, x.dollars))

pub dollar_whole : (x y : DollarFacts) → dollar_parts x ≡ dollar_parts y → x ≡ y
unfolding dollar_parts
dollar_whole x y e =
    let P : DollarParts → Type 0 = λ b. b.1.1 ≤ 9999 in
    let make : (b : DollarParts) → P b → DollarFacts = λ b p. record { student = b.0; year = b.1.0; dollars = b.1.1; in_range = p } in
    same_with_fact P make (λ b. hlevel (le_prop, props)) (dollar_parts x) (dollar_parts y) x.in_range y.in_range e

-- the student, the year, the minutes and the wage
abbrev pub EarnParts : Type 0
EarnParts = ℕ × (ℕ × (ℕ × ℕ))

unfoldable pub earn_parts : EarnFacts → EarnParts
earn_parts x = (x.student, (x.year, (x.minutes, x.wage)))

pub earn_whole : (x y : EarnFacts) → earn_parts x ≡ earn_parts y → x ≡ y
unfolding earn_parts
earn_whole x y e =
    let P : EarnParts → Type 0 = λ b. (b.1.1.0 ≤ 60000) × (b.1.1.1 ≤ 100000) in
    let make : (b : EarnParts) → P b → EarnFacts = λ b p. record { student = b.0; year = b.1.0; minutes = b.1.1.0; wage = b.1.1.1; in_range = p } in
    same_with_fact P make (λ b. hlevel (le_prop, props)) (earn_parts x) (earn_parts y) x.in_range y.in_range e
