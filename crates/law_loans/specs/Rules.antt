-- Which rules a loan filing breaks, and with what it is admitted. A history is read newest first.
use Rattle.std.specs.Prelude.{◌≡◌, ◌<◌, ◌^◌, ℕ, ◌+◌, ◌*◌, ◌==◌, Bool, true, false, nat_le, nat_lt, if◌then◌else◌}
use Rattle.std.specs.Prelude.{List, [], ◌∷◌, length, Option, Some, None}
use Rattle.aid_types.specs.declared.award.Refusal.{Refusal}
use Rattle.law_loans.specs.declared.filing.BorrowerFacts.{BorrowerFacts}
use Rattle.law_loans.specs.declared.filing.LimitFacts.{LimitFacts}
use Rattle.law_loans.specs.declared.filing.LoanFiling.{LoanFiling}
use Rattle.law_loans.specs.declared.filing.LoanWhat.{LoanWhat}
use Rattle.law_loans.specs.declared.filing.LoanWhat.TheVariants.{Limits, Borrower, Before, Lend, Cancel}
use Rattle.aid_types.specs.RuleLines.{first_broken, lacks, over, stands, tried_if, where_true}
use Rattle.aid_types.specs.declared.line.RuleLine.{RuleLine}
use Rattle.law_loans.specs.Loans.{aggregate_sub, aggregate_total, annual_sub, annual_total, before, before_at, before_sub, before_total, cost_of}
use Rattle.law_loans.specs.Loans.{is_sub, last_record, limits, limits_at, limits_under, loan_at, need_of, nets, record_in, transaction_of, under}
use Rattle.law_loans.specs.declared.bounds.Bounds.{Bounds}
use Rattle.law_loans.specs.declared.facts.LoanFacts.{LoanFacts}
use Rattle.law_loans.specs.declared.facts.LoanNets.{LoanNets}
use Rattle.law_loans.specs.declared.facts.LoanOutcome.{LoanOutcome}
use Rattle.law_loans.specs.declared.facts.LoanOutcome.TheVariants.{Noted, Lent}
use Rattle.law_loans.specs.declared.facts.Tries.{Tries}
use Rattle.aid_types.specs.Limits.{most_desk_filings}

-- ---- what a filing is judged on
-- whom it is about, and which year; 0 where it is about none
abbrev pub student_of : LoanWhat → ℕ
student_of (Limits l) = 0
student_of (Borrower r) = r.student
student_of (Before b) = b.student
student_of (Lend a) = a.student
student_of (Cancel a) = a.student

abbrev pub year_of : LoanWhat → ℕ
year_of (Limits l) = l.year
year_of (Borrower r) = r.year
year_of (Before b) = 0
year_of (Lend a) = a.year
year_of (Cancel a) = a.year

-- what is on file for a student and a year
abbrev pub facts_on : List LoanFiling → ℕ → ℕ → LoanFacts
facts_on past student year = record {
  count = length past;
  limits_at = limits_at past year;
  limits = limits past year;
  «record» = record_in past student year;
  last = last_record past student;
  last_limits = limits_under past (last_record past student);
  before_at = before_at past student;
  before_sub = before_sub (before past student);
  before_total = before_total (before past student);
  loan_at = loan_at past student;
  nets = nets past student year;
}

abbrev pub facts_of : List LoanFiling → LoanFiling → LoanFacts
facts_of past f = facts_on past (student_of f.what) (year_of f.what)

-- ---- nets
-- with a loan
abbrev pub with_loan : LoanNets → Bool → ℕ → LoanNets
with_loan n true cents = record { sub = n.sub + cents; unsub = n.unsub; sub_all = n.sub_all + cents; unsub_all = n.unsub_all }
with_loan n false cents = record { sub = n.sub; unsub = n.unsub + cents; sub_all = n.sub_all; unsub_all = n.unsub_all + cents }

-- of a program in the year
abbrev pub net_of_program : LoanNets → Bool → ℕ
net_of_program n true = n.sub
net_of_program n false = n.unsub

abbrev pub of_year : LoanNets → ℕ
of_year n = n.sub + n.unsub

abbrev pub of_all : LoanNets → ℕ
of_all n = n.sub_all + n.unsub_all

-- nets below so much that their sums have room in 64 bits
abbrev pub AreSmall : LoanNets → Type 0
AreSmall n = (n.sub < 2 ^ 50) × (n.unsub < 2 ^ 50) × (n.sub_all < 2 ^ 50) × (n.unsub_all < 2 ^ 50)

-- the same with one loan more
abbrev pub HaveRoom : LoanNets → Type 0
HaveRoom n = (n.sub < 2 ^ 51) × (n.unsub < 2 ^ 51) × (n.sub_all < 2 ^ 51) × (n.unsub_all < 2 ^ 51)

-- ---- the rules
-- the bounds of a record by the limits of its year, in dollars: 0 where there is no record, or no limits of its year
abbrev pub bounds_under : Option LimitFacts → Option BorrowerFacts → Bounds
bounds_under l r = record {
  need = need_of r;
  sub = under annual_sub l r;
  total = under annual_total l r;
  cost = cost_of r;
  sub_all = under aggregate_sub l r;
  all = under aggregate_total l r;
}

-- a limit's rule: a record tells 126 for each of them
abbrev pub rule_for : Tries → ℕ → ℕ
rule_for tries rule = if tries.of_record then 126 else rule

-- 116 to 121: nets above the need, the limits of the year, the aggregate limits with what was borrowed before, and the cost; nets in
-- cents, bounds in dollars. `own` is of the record whose year is at hand, and `last` of the last one.
abbrev pub limit_lines : Tries → LoanFacts → LoanNets → Bounds → Bounds → List RuleLine
limit_lines tries f n own last =
    tried_if tries.sub (over (rule_for tries 116) n.sub (100 * own.need))
    ∷ tried_if tries.sub (over (rule_for tries 117) n.sub (100 * own.sub))
    ∷ over (rule_for tries 118) (of_year n) (100 * own.total)
    ∷ tried_if tries.all_sub (over (rule_for tries 119) (100 * f.before_sub + n.sub_all) (100 * last.sub_all))
    ∷ tried_if tries.all (over (rule_for tries 120) (100 * f.before_total + of_all n) (100 * last.all))
    ∷ over (rule_for tries 121) (of_year n) (100 * own.cost)
    ∷ []

-- the limits that a record is tried against, by the nets as they stand: the aggregate limits where there are such nets
abbrev pub tries_of_record : LoanNets → Tries
tries_of_record n = record { of_record = true; sub = true; all_sub = nat_lt 0 n.sub_all; all = nat_lt 0 (of_all n) }

-- the limits that a loan is tried against
abbrev pub tries_of_loan : Bool → Tries
tries_of_loan sub = record { of_record = false; sub = sub; all_sub = sub; all = true }

-- the rules of a kind in the order in which they are tried, behind 110
abbrev pub kind_lines : LoanFacts → ℕ → LoanWhat → List RuleLine
kind_lines f school (Limits l) = over 14 school 0 ∷ stands 111 f.limits_at l.year ∷ []
kind_lines f school (Borrower r) =
    lacks 112 f.limits_at r.year 0
    ∷ where_true 113 (nat_le r.transaction (transaction_of f.record)) r.transaction (transaction_of f.record)
    ∷ limit_lines (tries_of_record f.nets) f f.nets (bounds_under f.limits (Some r)) (bounds_under f.limits (Some r))
kind_lines f school (Before b) = over 14 school 0 ∷ over 125 b.sub b.total ∷ stands 123 f.before_at b.student ∷ stands 124 f.loan_at b.student ∷ []
kind_lines f school (Lend a) =
    lacks 114 (transaction_of f.record) a.student a.year
    ∷ where_true 115 (a.cents == 0) 0 1
    ∷ limit_lines (tries_of_loan (is_sub a.program)) f (with_loan f.nets (is_sub a.program) a.cents)
    (bounds_under f.limits f.record) (bounds_under f.last_limits f.last)
kind_lines f school (Cancel a) = where_true 115 (a.cents == 0) 0 1 ∷ over 122 a.cents (net_of_program f.nets (is_sub a.program)) ∷ []

-- the most filings that a loan office keeps
abbrev pub most_loan_filings : ℕ
most_loan_filings = most_desk_filings

-- 110: the office is full
abbrev pub rule_110 : ℕ → RuleLine
rule_110 count = where_true 110 (nat_le most_loan_filings count) most_loan_filings most_loan_filings

-- the rules of a filing
abbrev pub lines_of : LoanFacts → LoanFiling → List RuleLine
lines_of f filing = rule_110 f.count ∷ kind_lines f filing.key.school filing.what

-- the first rule that a filing breaks after the filings past
abbrev pub breaks : List LoanFiling → LoanFiling → Option Refusal
breaks past filing = first_broken (lines_of (facts_of past filing) filing)

-- with what it is admitted: a loan with the net of its year, and with that of all years and what was borrowed before, in cents
abbrev pub outcome_by : LoanFacts → LoanWhat → LoanOutcome
outcome_by f (Lend a) =
    let n = with_loan f.nets (is_sub a.program) a.cents in
    Lent (of_year n) (100 * f.before_total + of_all n)
outcome_by f _ = Noted

abbrev pub outcome_of : List LoanFiling → LoanFiling → LoanOutcome
outcome_of past filing = outcome_by (facts_of past filing) filing.what

-- each filing of a list breaks no rule on those before it
abbrev pub AreAllowed : List LoanFiling → Type 0
AreAllowed [] = Unit {0}
AreAllowed (f ∷ past) = AreAllowed past × (breaks past f ≡ None)
