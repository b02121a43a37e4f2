-- Each kind's lines on the facts, in the order of its rules: what the code tries.
use Rattle.std.specs.Prelude.{ℕ, ◌+◌, ◌*◌, ◌==◌, ◌||◌, nat_lt, List, [], ◌∷◌, ◌++◌, sum, slice_index, Option}
use Rattle.aid_filings.specs.Calendars.{term_of}
use Rattle.aid_types.specs.Programs.{rank}
use Rattle.aid_types.specs.declared.number.Key.{Key}
use Rattle.aid_filings.specs.declared.filing.What.{What}
use Rattle.aid_filings.specs.declared.filing.What.TheVariants.{Book as BookFiled, School, Calendar, Prior, Apply, Enroll, Originate, Pay, Withdraw, Repay, Adjust, Cost, Sent, Amend}
use Rattle.aid_types.specs.declared.award.Refusal.{Refusal}
use Rattle.law_terms.specs.Terms.{intensity_of, payment_of}
use Rattle.law_terms.specs.Used.{use_of}
use Rattle.law_rules.specs.declared.facts.Facts.{Facts}
use Rattle.aid_types.specs.declared.line.RuleLine.{RuleLine}
use Rattle.aid_types.specs.RuleLines.{over, stands, lacks, where_true, too_early, only, first_broken, told}
use Rattle.law_rules.specs.Rules.{rule_90, rule_21, rule_23, rule_24, rule_53, rule_62, rule_91, limit_of}
use Rattle.aid_types.specs.Limits.{fseog_limit, is_fseog, is_pell, most_units}

-- the payment of this term in cents, at the credits in force
abbrev pub payment_here : Facts → ℕ
payment_here f = 100 * payment_of f.scheduled (intensity_of f.credits f.full) f.terms

abbrev pub year_limit : Facts → ℕ
year_limit f = limit_of f.term (intensity_of f.credits f.full) f.scheduled

-- 54 to 57, told under a number: past the term's payment, the year's limits, the lifetime limit, the cost
abbrev pub past_payment : ℕ → Facts → ℕ → RuleLine
past_payment rule f cents = over rule (f.pell_term + cents) (payment_here f)

abbrev pub past_year : ℕ → Facts → ℕ → RuleLine
past_year rule f cents = over rule (f.pell_year + cents) (year_limit f)

abbrev pub past_fseog : ℕ → Facts → ℕ → RuleLine
past_fseog rule f cents = over rule (f.fseog_year + cents) fseog_limit

abbrev pub past_lifetime : ℕ → Facts → ℕ → RuleLine
past_lifetime rule f cents = over rule (f.used_else + use_of (f.pell_year + cents) f.scheduled) most_units

abbrev pub past_cost : ℕ → Facts → ℕ → RuleLine
past_cost rule f cents = over rule (f.net_all + cents) (100 * f.cost)

-- 43, 40, 58: the index is at or above the ceiling; no Pell for this student; a term of another school that shares a day is paid
abbrev pub pell_lines : Facts → ℕ → List RuleLine
pell_lines f school = stands 43 f.ceiling_index f.ceiling_bound ∷ where_true 40 (f.scheduled == 0) f.transaction 0 ∷ stands 58 f.other_school school ∷ []

-- 52: past the post-withdrawal amounts
abbrev pub rule_52 : Facts → ℕ → ℕ → List RuleLine
rule_52 f program cents =
    only (nat_lt 0 f.withdrawn_at)
    (over 52 (f.after + cents) (slice_index f.could program) ∷ over 52 (f.after_all + cents) f.post ∷ [])

-- 63: what could have been disbursed is past a limit
abbrev pub rule_63 : Facts → List ℕ → List RuleLine
rule_63 f could =
    let pell = slice_index could 3 in
    let fseog = slice_index could 4 in
    only (nat_lt 0 pell) (past_payment 63 f pell ∷ past_year 63 f pell ∷ past_lifetime 63 f pell ∷ [])
    ++ (only (nat_lt 0 fseog) (past_fseog 63 f fseog ∷ [])
    ++ only (nat_lt 0 (sum could)) (past_cost 63 f (sum could) ∷ []))

-- 93: a correction would leave a limit exceeded
abbrev pub rule_93 : Facts → List RuleLine
rule_93 f =
    told f.term_over
    ++ (over 93 f.pell_main (100 * f.next_scheduled) ∷ over 93 f.pell_year (150 * f.next_scheduled)
    ∷ over 93 (f.used_else + use_of f.pell_year f.next_scheduled) most_units ∷ [])

-- what a payment of so many cents of a program by a school tries after where the student stands and the amount alone
abbrev pub amount_lines : Facts → ℕ → ℕ → ℕ → List RuleLine
amount_lines f school program cents =
    let pell = is_pell program in
    only pell (pell_lines f school)
    ++ (rule_52 f program cents
    ++ (only pell (past_payment 54 f cents ∷ past_year 55 f cents ∷ past_lifetime 56 f cents ∷ [])
    ++ (only (is_fseog program) (past_fseog 55 f cents ∷ []) ++ (past_cost 57 f cents ∷ []))))

-- what a payment and a withdrawal begin with: the school, the term, and the student there
abbrev pub standing_lines : Facts → ℕ → ℕ → ℕ → ℕ → List RuleLine
standing_lines f school student year term =
    rule_90 f.filings ∷ lacks 12 f.school_at school 0 ∷ lacks 30 f.term_at term 0 ∷ lacks 31 f.transaction student year
    ∷ lacks 50 f.cost_at student school ∷ []

-- a payment of so many cents of a program by a school to a student in a year's term: its lines in their order; 51: not enrolled
abbrev pub payment_lines : Facts → ℕ → ℕ → ℕ → ℕ → ℕ → ℕ → List RuleLine
payment_lines f school student year term program cents =
    standing_lines f school student year term
    ++ (lacks 51 f.credits student term ∷ rule_53 (is_pell program) cents ∷ amount_lines f school program cents)

-- the lines of a filing by a school, in the order of its kind. 12, 30, 31: its school, term or application isn't on file; 14: the office's own
-- desk alone files it; 10: no book; 11, 13, 20, 41, 61, 80: it is on file; 22: it overlaps another term of the school; 34: the student withdrew
-- from the term; 82: a Pell payment is on file; 32: credits 0 or above 40; 33: more is paid than they give; 42, 71: the amount is 0; 45: more is
-- paid than the changed cost; 50: no origination; 60: not enrolled; 64: no withdrawal; 65: sent before the school determined it; 66: past what
-- is returned; 70: past what is owed; 72: past the net paid; 81: past the lifetime limit
abbrev pub lines_of : Facts → ℕ → What → List RuleLine
lines_of f school (BookFiled b) = rule_90 f.filings ∷ over 14 school 0 ∷ stands 11 f.book_at b.year ∷ []
lines_of f school (School s) = rule_90 f.filings ∷ over 14 school 0 ∷ stands 13 f.code_at s.code ∷ []
lines_of f school (Calendar c) =
    rule_90 f.filings ∷ lacks 12 f.school_at school 0 ∷ stands 20 f.term_at c.term ∷ rule_21 (term_of c)
    ++ (rule_23 (term_of c) ++ (stands 22 f.overlap_at c.term ∷ rule_24 (term_of c) f.main_terms f.terms))
lines_of f school (Prior p) =
    rule_90 f.filings ∷ over 14 school 0 ∷ over 81 p.units most_units ∷ stands 80 f.prior_at p.student ∷ stands 82 f.pell_at p.student ∷ []
lines_of f school (Apply a) =
    rule_90 f.filings ∷ only (nat_lt 0 school) (lacks 12 f.school_at school 0 ∷ [])
    ++ (lacks 10 f.book_at a.year 0 ∷ told f.unfit ++ (rule_91 a.transaction f.transaction ∷ rule_93 f))
lines_of f school (Enroll e) =
    rule_90 f.filings ∷ lacks 12 f.school_at school 0 ∷ lacks 30 f.term_at e.term 0 ∷ where_true 32 (e.credits == 0 || nat_lt 40 e.credits) e.credits 40 ∷ stands 34 f.withdrawn_at e.term
    ∷ over 33 f.pell_term (100 * payment_of f.scheduled (intensity_of e.credits f.full) f.terms) ∷ []
lines_of f school (Originate o) =
    rule_90 f.filings ∷ lacks 12 f.school_at school 0 ∷ lacks 31 f.transaction o.student o.year ∷ stands 41 f.cost_at o.year ∷ where_true 42 (o.cost == 0) 0 1 ∷ []
lines_of f school (Pay a) = payment_lines f school a.student a.year a.term (rank a.program) a.cents
lines_of f school (Withdraw w) =
    standing_lines f school w.student w.year w.term
    ++ (lacks 60 f.credits w.student w.term ∷ stands 61 f.withdrawn_at w.term
    ∷ rule_62 w.last f.term ++ (too_early 21 w.determined w.last ∷ rule_63 f w.could))
lines_of f school (Repay a) =
    rule_90 f.filings ∷ lacks 12 f.school_at school 0 ∷ where_true 71 (a.cents == 0) 0 1 ∷ over 70 (f.repaid + a.cents) f.owed ∷ []
lines_of f school (Adjust a) =
    rule_90 f.filings ∷ lacks 12 f.school_at school 0 ∷ lacks 30 f.term_at a.term 0 ∷ where_true 71 (a.cents == 0) 0 1 ∷ stands 34 f.withdrawn_at a.term
    ∷ over 72 a.cents f.net ∷ []
lines_of f school (Cost o) =
    rule_90 f.filings ∷ lacks 12 f.school_at school 0 ∷ lacks 50 f.cost_at o.student school ∷ where_true 42 (o.cost == 0) 0 1
    ∷ over 45 f.net_all (100 * o.cost) ∷ []
lines_of f school (Sent s) =
    rule_90 f.filings ∷ lacks 12 f.school_at school 0 ∷ lacks 64 f.withdrawn_at s.student s.term ∷ where_true 71 (s.cents == 0) 0 1
    ∷ too_early 65 s.day f.determined ∷ over 66 (f.sent + s.cents) f.returned ∷ []
lines_of f school (Amend a) = rule_90 f.filings ∷ only (nat_lt 0 school) (lacks 12 f.school_at school 0 ∷ [])

-- the first broken rule of a filing
abbrev pub broken_of : Facts → Key → What → Option Refusal
broken_of f key what = first_broken (lines_of f key.school what)
