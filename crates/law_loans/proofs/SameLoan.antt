-- What is filed of loans is told by its plain fields, since its facts have one proof at most.
use Rattle.std.proofs.Common.{◌≡◌, ℕ, Bool, ◌≤◌, List, ◌∷◌, ◌++◌}
use Rattle.std.specs.Prelude.{IsTrue}
use Rattle.std.specs.Coded.{le_prop}
use denote.Struct.Props.{props}
use Rattle.aid_types.proofs.Same.{same_with_fact}
use Rattle.aid_types.specs.Ranges.{IsBetween}
use Rattle.aid_types.specs.declared.number.Program.{Program}
use Rattle.law_loans.specs.Ranges.{EachIsDollars, HaveLevels, is_loan}
use Rattle.law_loans.specs.declared.filing.BeforeFacts.{BeforeFacts}
use Rattle.law_loans.specs.declared.filing.BorrowerFacts.{BorrowerFacts}
use Rattle.law_loans.specs.declared.filing.LimitFacts.{LimitFacts}
use Rattle.law_loans.specs.declared.filing.LoanAmount.{LoanAmount}

-- the year, and the limits: annual of subsidized loans, of dependent, independent and graduate students, and aggregate
abbrev pub LimitParts : Type 0
LimitParts = ℕ × (List ℕ × (List ℕ × (List ℕ × (ℕ × (List ℕ × List ℕ)))))

unfoldable pub limit_parts : LimitFacts → LimitParts
limit_parts x = (x.year, (x.sub, (x.dependent, (x.independent, (x.graduate, (x.aggregate_sub, x.aggregate))))))

pub limit_whole : (x y : LimitFacts) → limit_parts x ≡ limit_parts y → x ≡ y
unfolding limit_parts
limit_whole x y e =
    let P : LimitParts → Type 0 = λ b. EachIsDollars (b.1.0 ++ b.1.1.0 ++ b.1.1.1.0 ++ b.1.1.1.1.0 ∷ b.1.1.1.1.1.0 ++ b.1.1.1.1.1.1) × HaveLevels b.1.0 b.1.1.0 b.1.1.1.0 b.1.1.1.1.1.0 b.1.1.1.1.1.1 in
    let make : (b : LimitParts) → P b → LimitFacts = λ b p. record { year = b.0; sub = b.1.0; dependent = b.1.1.0; independent = b.1.1.1.0; graduate = b.1.1.1.1.0; aggregate_sub = b.1.1.1.1.1.0; aggregate = b.1.1.1.1.1.1; in_range = p.0; levels = p.1 } in
    same_with_fact P make (λ b. hlevel (props)) (limit_parts x) (limit_parts y) (x.in_range, x.levels) (y.in_range, y.levels) e

-- the student, the year, the transaction, the level, whether independent, the need and the cost
abbrev pub BorrowerParts : Type 0
BorrowerParts = ℕ × (ℕ × (ℕ × (ℕ × (Bool × (ℕ × ℕ)))))

unfoldable pub borrower_parts : BorrowerFacts → BorrowerParts
borrower_parts x = (x.student, (x.year, (x.transaction, (x.level, (x.independent, (x.need, x.cost))))))

pub borrower_whole : (x y : BorrowerFacts) → borrower_parts x ≡ borrower_parts y → x ≡ y
unfolding borrower_parts
borrower_whole x y e =
    let P : BorrowerParts → Type 0 = λ b. IsBetween 1 99 b.1.1.0 × IsBetween 1 4 b.1.1.1.0 × (b.1.1.1.1.1.0 ≤ 999999) × (b.1.1.1.1.1.1 ≤ 999999) in
    let make : (b : BorrowerParts) → P b → BorrowerFacts = λ b p. record { student = b.0; year = b.1.0; transaction = b.1.1.0; level = b.1.1.1.0; independent = b.1.1.1.1.0; need = b.1.1.1.1.1.0; cost = b.1.1.1.1.1.1; in_range = p } in
    same_with_fact P make (λ b. hlevel (le_prop, props)) (borrower_parts x) (borrower_parts y) x.in_range y.in_range e

abbrev pub BeforeParts : Type 0
BeforeParts = ℕ × (ℕ × ℕ)

unfoldable pub before_parts : BeforeFacts → BeforeParts
before_parts x = (x.student, (x.sub, x.total))

pub before_whole : (x y : BeforeFacts) → before_parts x ≡ before_parts y → x ≡ y
unfolding before_parts
before_whole x y e =
    let P : BeforeParts → Type 0 = λ b. (b.1.0 ≤ 999999) × (b.1.1 ≤ 999999) in
    let make : (b : BeforeParts) → P b → BeforeFacts = λ b p. record { student = b.0; sub = b.1.0; total = b.1.1; in_range = p } in
    same_with_fact P make (λ b. hlevel (le_prop, props)) (before_parts x) (before_parts y) x.in_range y.in_range e

abbrev pub LoanParts : Type 0
LoanParts = ℕ × (ℕ × (Program × ℕ))

unfoldable pub loan_parts : LoanAmount → LoanParts
loan_parts x = (x.student, (x.year, (x.program, x.cents)))

pub loan_whole : (x y : LoanAmount) → loan_parts x ≡ loan_parts y → x ≡ y
unfolding loan_parts
loan_whole x y e =
    let P : LoanParts → Type 0 = λ b. IsTrue (is_loan b.1.1.0) × (b.1.1.1 ≤ 99999999) in
    let make : (b : LoanParts) → P b → LoanAmount = λ b p. record { student = b.0; year = b.1.0; program = b.1.1.0; cents = b.1.1.1; in_range = p } in
    same_with_fact P make (λ b. hlevel (le_prop, props)) (loan_parts x) (loan_parts y) x.in_range y.in_range e
