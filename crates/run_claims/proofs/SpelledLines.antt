-- Lines of a filing on the facts of a history, spelled out: each computes to its line on the facts.
use Rattle.std.specs.Prelude.{ℕ, ◌+◌, ◌*◌, nat_lt, List, [], ◌∷◌, ◌++◌, sum, slice_index}
use Rattle.aid_filings.specs.declared.filing.Filing.{Filing}
use Rattle.law_terms.specs.Terms.{intensity_of}
use Rattle.law_terms.specs.Used.{use_of}
use Rattle.aid_types.specs.Limits.{fseog_limit, most_units}
use Rattle.aid_types.specs.declared.line.RuleLine.{RuleLine}
use Rattle.aid_types.specs.RuleLines.{over, stands, only, told}
use Rattle.law_rules.specs.Rules.{limit_of}
use Rattle.office_history.specs.Past.{the_school, the_term, the_withdrawal, credits, cost, terms_on_file}
use Rattle.office_history.specs.Award.{scheduled}
use Rattle.office_history.specs.Net.{is_cell, cell_at, net, in_year, in_term, at_school_in_year, pell_term, pell_year, pell_main, used_else, post, paid_after}
use Rattle.office_history.specs.Positions.{full_of, withdrawn_at, could_of, least_code, is_paid_beside, payment_at, term_over}

-- of a student's aid in a term of a school's year
module _ (past : List Filing) (school student year term : ℕ) where
  -- so many cents more of Pell, each line under its number: past the term's payment, the year's limit, the lifetime limit
  abbrev pub pell_limits : ℕ → ℕ → ℕ → ℕ → List RuleLine
  pell_limits of_term of_year of_lifetime cents =
      over of_term (pell_term past school student year term + cents) (payment_at past (scheduled past student year) school student year term)
      ∷ over of_year (pell_year past student year + cents)
      (limit_of (the_term past school year term)
      (intensity_of (credits past school student year term) (full_of (the_school past school))) (scheduled past student year))
      ∷ over of_lifetime (used_else past student year + use_of (pell_year past student year + cents) (scheduled past student year)) most_units ∷ []

  -- so many cents more of FSEOG: past the year's limit; of any program: past the cost of attendance
  abbrev pub past_fseog : ℕ → ℕ → RuleLine
  past_fseog rule cents = over rule (net past (in_year student year 4) + cents) fseog_limit

  abbrev pub past_cost : ℕ → ℕ → RuleLine
  past_cost rule cents = over rule (net past (at_school_in_year school student year) + cents) (100 * cost past school student year)

  -- 52: past what may be paid after the withdrawal from the term, of the program and of all programs
  abbrev pub rule_52 : ℕ → ℕ → List RuleLine
  rule_52 program cents =
      only (nat_lt 0 (withdrawn_at past school student year term))
      (over 52 (paid_after past (is_cell (cell_at school student year term program)) + cents)
      (slice_index (could_of (the_withdrawal past school student year term)) program)
      ∷ over 52 (paid_after past (in_term school student year term) + cents) (post past (in_term school student year term)) ∷ [])

  -- 58: a term of another school that shares a day is paid
  abbrev pub rule_58 : RuleLine
  rule_58 = stands 58 (least_code (is_paid_beside past school student (the_term past school year term)) (terms_on_file past)) school

  -- 63: what could have been disbursed at a withdrawal is past a limit
  abbrev pub rule_63 : List ℕ → List RuleLine
  rule_63 could =
      only (nat_lt 0 (slice_index could 3)) (pell_limits 63 63 63 (slice_index could 3))
      ++ (only (nat_lt 0 (slice_index could 4)) (past_fseog 63 (slice_index could 4) ∷ [])
      ++ only (nat_lt 0 (sum could)) (past_cost 63 (sum could) ∷ []))

-- 93: a correction to this award would leave a limit exceeded
abbrev pub rule_93 : List Filing → ℕ → ℕ → ℕ → List RuleLine
rule_93 past student year award =
    told (term_over past award student year)
    ++ (over 93 (pell_main past student year) (100 * award) ∷ over 93 (pell_year past student year) (150 * award)
    ∷ over 93 (used_else past student year + use_of (pell_year past student year) award) most_units ∷ [])
