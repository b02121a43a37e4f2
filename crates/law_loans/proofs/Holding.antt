-- What holds where a filing breaks no rule.
use Rattle.std.proofs.Common.{◌≡◌, ℕ, ◌+◌, ◌*◌, ◌≤◌, ◌<◌, refl, subst, Bool, true, false, List, length, Some, None, leb-false}
use Rattle.aid_types.specs.declared.number.Key.{Key}
use Rattle.law_loans.specs.declared.filing.BeforeFacts.{BeforeFacts}
use Rattle.law_loans.specs.declared.filing.BorrowerFacts.{BorrowerFacts}
use Rattle.law_loans.specs.declared.filing.LoanAmount.{LoanAmount}
use Rattle.law_loans.specs.declared.filing.LoanFiling.{LoanFiling}
use Rattle.law_loans.specs.declared.filing.LoanWhat.TheVariants.{Borrower, Before, Lend, Cancel}
use Rattle.aid_types.specs.RuleLines.{over, tried_if}
use Rattle.aid_types.specs.declared.line.RuleLine.{RuleLine}
use Rattle.aid_types.proofs.Holds.{AllHold, all_hold, over_holds, stands_holds}
use Rattle.law_loans.specs.Loans.{before, before_sub, before_total, in_year, is_sub, last_record, limits, limits_under, loan_at, net, nets, record_in, transaction_of}
use Rattle.law_loans.specs.Rules.{bounds_under, breaks, facts_of, facts_on, limit_lines, lines_of, net_of_program, of_all, of_year, rule_for, tries_of_loan, tries_of_record, with_loan}
use Rattle.law_loans.specs.declared.bounds.Bounds.{Bounds}
use Rattle.law_loans.specs.declared.facts.LoanFacts.{LoanFacts}
use Rattle.law_loans.specs.declared.facts.LoanNets.{LoanNets}
use Rattle.law_loans.specs.declared.facts.Tries.{Tries}

-- a line that is tried, and not broken
pub tried_holds : (test : Bool) (line : RuleLine) → (tried_if test line).is_broken ≡ false → test ≡ true → line.is_broken ≡ false
tried_holds true line h e = h
tried_holds false line h e = cc

tried_over : (test : Bool) (rule kept bound : ℕ) → (tried_if test (over rule kept bound)).is_broken ≡ false → test ≡ true → kept ≤ bound
tried_over test rule kept bound h e = over_holds rule kept bound (tried_holds test (over rule kept bound) h e)

-- what holds where no line of a limit is broken: of nets, of what was borrowed before, and of bounds
pub record LimitsHold (t : Tries) (told_sub told_total : ℕ) (n : LoanNets) (own last : Bounds) : Type 0 where
  pub need : t.sub ≡ true → n.sub ≤ 100 * own.need
  pub annual : t.sub ≡ true → n.sub ≤ 100 * own.sub
  pub total : of_year n ≤ 100 * own.total
  pub aggregate : t.all_sub ≡ true → 100 * told_sub + n.sub_all ≤ 100 * last.sub_all
  pub whole : t.all ≡ true → 100 * told_total + of_all n ≤ 100 * last.all
  pub cost : of_year n ≤ 100 * own.cost

pub limits_hold : (t : Tries) (f : LoanFacts) (n : LoanNets) (own last : Bounds) → AllHold (limit_lines t f n own last) →
    LimitsHold t f.before_sub f.before_total n own last
limits_hold t f n own last h = record {
  need = tried_over t.sub (rule_for t 116) n.sub (100 * own.need) h.0;
  annual = tried_over t.sub (rule_for t 117) n.sub (100 * own.sub) h.1.0;
  total = over_holds (rule_for t 118) (of_year n) (100 * own.total) h.1.1.0;
  aggregate = tried_over t.all_sub (rule_for t 119) (100 * f.before_sub + n.sub_all) (100 * last.sub_all) h.1.1.1.0;
  whole = tried_over t.all (rule_for t 120) (100 * f.before_total + of_all n) (100 * last.all) h.1.1.1.1.0;
  cost = over_holds (rule_for t 121) (of_year n) (100 * own.cost) h.1.1.1.1.1.0;
}

-- 110: the office isn't full
pub has_room : (past : List LoanFiling) (f : LoanFiling) → breaks past f ≡ None → length past < 200000
has_room past f h =
    let k = all_hold (lines_of (facts_of past f) f) h in
    leb-false 200000 (length past) k.0

-- a record: its transaction is higher, and the nets as they stand are within its limits
pub borrower_holds : (past : List LoanFiling) (key : Key) (r : BorrowerFacts) → breaks past (record { key = key; what = Borrower r }) ≡ None →
    (transaction_of (record_in past r.student r.year) < r.transaction)
    × LimitsHold (tries_of_record (nets past r.student r.year)) (before_sub (before past r.student)) (before_total (before past r.student)) (nets past r.student r.year) (bounds_under (limits past r.year) (Some r)) (bounds_under (limits past r.year) (Some r))
borrower_holds past key r h =
    let k = all_hold (lines_of (facts_on past r.student r.year) (record { key = key; what = Borrower r })) h in (
      leb-false r.transaction (transaction_of (record_in past r.student r.year)) k.1.1.0,
      limits_hold (tries_of_record (nets past r.student r.year)) (facts_on past r.student r.year) (nets past r.student r.year)
          (bounds_under (limits past r.year) (Some r)) (bounds_under (limits past r.year) (Some r)) k.1.1.1,
    )

-- what was borrowed before: no loan of the student stands
pub before_holds : (past : List LoanFiling) (key : Key) (b : BeforeFacts) → breaks past (record { key = key; what = Before b }) ≡ None →
    loan_at past b.student ≡ 0
before_holds past key b h =
    let k = all_hold (lines_of (facts_on past b.student 0) (record { key = key; what = Before b })) h in
    stands_holds 124 (loan_at past b.student) b.student k.1.1.1.1.0

-- a loan: the nets with it are within the limits of the record in force and of the last one
pub lend_holds : (past : List LoanFiling) (key : Key) (a : LoanAmount) → breaks past (record { key = key; what = Lend a }) ≡ None →
    LimitsHold (tries_of_loan (is_sub a.program)) (before_sub (before past a.student)) (before_total (before past a.student))
    (with_loan (nets past a.student a.year) (is_sub a.program) a.cents) (bounds_under (limits past a.year) (record_in past a.student a.year))
    (bounds_under (limits_under past (last_record past a.student)) (last_record past a.student))
lend_holds past key a h =
    let k = all_hold (lines_of (facts_on past a.student a.year) (record { key = key; what = Lend a })) h in
    limits_hold (tries_of_loan (is_sub a.program)) (facts_on past a.student a.year)
    (with_loan (nets past a.student a.year) (is_sub a.program) a.cents) (bounds_under (limits past a.year) (record_in past a.student a.year))
    (bounds_under (limits_under past (last_record past a.student)) (last_record past a.student)) k.1.1.1

-- a cancellation is at most the net of its student, year and program
net_here : (past : List LoanFiling) (student year : ℕ) (sub : Bool) → net_of_program (nets past student year) sub ≡ net past (in_year student year sub)
net_here past student year true = refl
net_here past student year false = refl

pub cancel_holds : (past : List LoanFiling) (key : Key) (a : LoanAmount) → breaks past (record { key = key; what = Cancel a }) ≡ None →
    a.cents ≤ net past (in_year a.student a.year (is_sub a.program))
cancel_holds past key a h =
    let k = all_hold (lines_of (facts_on past a.student a.year) (record { key = key; what = Cancel a })) h in
    subst (λ x. a.cents ≤ x) (net_here past a.student a.year (is_sub a.program))
    (over_holds 122 a.cents (net_of_program (nets past a.student a.year) (is_sub a.program)) k.1.1.0)
