-- Which rules a filing of Federal Work-Study breaks, and with what it is admitted. A history is read newest first.
use Rattle.std.specs.Prelude.{◌≡◌, ◌≤◌, ℕ, ◌+◌, ◌-◌, ◌*◌, ◌==◌, ◌||◌, Bool, nat_le, nat_lt, List, [], ◌∷◌, length, Option, None}
use Rattle.aid_types.specs.declared.award.Refusal.{Refusal}
use Rattle.aid_types.specs.RuleLines.{first_broken, lacks, over, stands, where_true}
use Rattle.aid_types.specs.declared.line.RuleLine.{RuleLine}
use Rattle.law_work.specs.declared.filing.WorkFiling.{WorkFiling}
use Rattle.law_work.specs.declared.filing.WorkWhat.{WorkWhat}
use Rattle.law_work.specs.declared.filing.WorkWhat.TheVariants.{Fund, Award, Earn, Release}
use Rattle.law_work.specs.Funds.{award_at, earned, earning, fund, fund_at, in_force, in_fund, of_student}
use Rattle.law_work.specs.declared.facts.WorkFacts.{WorkFacts}
use Rattle.law_work.specs.declared.facts.WorkOutcome.{WorkOutcome}
use Rattle.law_work.specs.declared.facts.WorkOutcome.TheVariants.{Noted, Earned}
use Rattle.aid_types.specs.Limits.{most_desk_filings}

-- ---- what a filing is judged on
-- which year it is about, and whom; 0 where it is about no student
abbrev pub year_of : WorkWhat → ℕ
year_of (Fund x) = x.year
year_of (Award a) = a.year
year_of (Earn e) = e.year
year_of (Release a) = a.year

abbrev pub student_of : WorkWhat → ℕ
student_of (Fund x) = 0
student_of (Award a) = a.student
student_of (Earn e) = e.student
student_of (Release a) = a.student

-- what is on file for a school, a year and a student
abbrev pub facts_on : List WorkFiling → ℕ → ℕ → ℕ → WorkFacts
facts_on past school year student = record {
  count = length past;
  fund_at = fund_at past school year;
  fund = fund past school year;
  awards = in_force past (in_fund school year);
  award_at = award_at past school year student;
  award = in_force past (of_student school year student);
  earned = earned past (of_student school year student);
}

abbrev pub facts_of : List WorkFiling → WorkFiling → WorkFacts
facts_of past f = facts_on past f.key.school (year_of f.what) (student_of f.what)

-- amounts as they stand on a legal list, so small that their sums have room
abbrev pub AreSmall : WorkFacts → Type 0
AreSmall f = (f.fund ≤ 9999999) × (f.awards ≤ 9999999) × (f.award ≤ 4000) × (f.earned ≤ 400000)

-- ---- the rules
-- 213: an award is of 100 to 4,000 dollars (own)
abbrev pub is_no_award : ℕ → Bool
is_no_award dollars = nat_lt dollars 100 || nat_lt 4000 dollars

-- the rules of a kind in the order in which they are tried, behind 210
abbrev pub kind_lines : WorkFacts → ℕ → WorkWhat → List RuleLine
kind_lines f school (Fund x) = stands 211 f.fund_at x.year ∷ []
kind_lines f school (Award a) =
    lacks 212 f.fund_at school a.year
    ∷ where_true 213 (is_no_award a.dollars) a.dollars 4000
    ∷ stands 214 f.award_at a.student
    ∷ over 215 (f.awards + a.dollars) f.fund
    ∷ []
kind_lines f school (Earn e) =
    lacks 216 f.award_at e.student e.year
    ∷ where_true 217 (earning e == 0) 0 1
    ∷ over 218 (f.earned + earning e) (100 * f.award)
    ∷ []
kind_lines f school (Release a) =
    lacks 216 f.award_at a.student a.year
    ∷ where_true 217 (a.dollars == 0) 0 1
    ∷ over 219 (100 * a.dollars) (100 * f.award - f.earned)
    ∷ []

-- the most filings that a work-study office keeps
abbrev pub most_work_filings : ℕ
most_work_filings = most_desk_filings

-- 210: the office is full
abbrev pub rule_210 : ℕ → RuleLine
rule_210 count = where_true 210 (nat_le most_work_filings count) most_work_filings most_work_filings

-- the rules of a filing
abbrev pub lines_of : WorkFacts → WorkFiling → List RuleLine
lines_of f filing = rule_210 f.count ∷ kind_lines f filing.key.school filing.what

-- the first rule that a filing breaks after the filings past
abbrev pub breaks : List WorkFiling → WorkFiling → Option Refusal
breaks past filing = first_broken (lines_of (facts_of past filing) filing)

-- with what it is admitted: an earning with what the student earned there in the year, with this, and what is left of the award
abbrev pub outcome_by : WorkFacts → WorkWhat → WorkOutcome
outcome_by f (Earn e) = Earned (f.earned + earning e) (100 * f.award - (f.earned + earning e))
outcome_by f _ = Noted

abbrev pub outcome_of : List WorkFiling → WorkFiling → WorkOutcome
outcome_of past filing = outcome_by (facts_of past filing) filing.what

-- each filing of a list breaks no rule on those before it
abbrev pub AreAllowed : List WorkFiling → Type 0
AreAllowed [] = Unit {0}
AreAllowed (f ∷ past) = AreAllowed past × (breaks past f ≡ None)
