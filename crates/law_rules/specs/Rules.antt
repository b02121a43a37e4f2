-- The rules on a filing, as lines of data on the numbers that they read: when a rule is broken, and what it then tells.
-- The rule numbers and the numbers told are the office's own; docs/DEFINITIONS.md has the source of what each rule keeps.
use Rattle.std.specs.Prelude.{ℕ, ◌+◌, ◌*◌, ◌%◌, ◌==◌, ◌&&◌, ◌||◌, Bool, false, not, nat_le, List, [], ◌∷◌, length, Option, Some, None, if◌then◌else◌}
use Rattle.aid_types.specs.declared.term.Term.{Term}
use Rattle.aid_types.specs.RuleLines.{only, over, too_early, where_true}
use Rattle.aid_types.specs.declared.line.RuleLine.{RuleLine}
use Rattle.aid_types.specs.Limits.{most_filings}

-- 90: the office is full
abbrev pub rule_90 : ℕ → RuleLine
rule_90 filings = where_true 90 (nat_le most_filings filings) most_filings most_filings

-- 21: days out of order. A break's first day comes after the last day of the break before
abbrev pub breaks_in_order : ℕ → List (ℕ × ℕ) → List RuleLine
breaks_in_order before [] = []
breaks_in_order before (b ∷ bs) =
    where_true 21 (nat_le b.0 before) b.0 before ∷ too_early 21 b.1 b.0 ∷ breaks_in_order b.1 bs

abbrev pub first_break_in_order : List (ℕ × ℕ) → List RuleLine
first_break_in_order [] = []
first_break_in_order (b ∷ bs) = too_early 21 b.1 b.0 ∷ breaks_in_order b.1 bs

abbrev pub rule_21 : Term → List RuleLine
rule_21 t = too_early 21 t.last t.first ∷ first_break_in_order t.breaks

-- 23: a break not inside the term
abbrev pub breaks_inside : Term → ℕ → List (ℕ × ℕ) → List RuleLine
breaks_inside t n [] = []
breaks_inside t n (b ∷ bs) =
    where_true 23 (nat_le b.0 t.first || nat_le t.last b.1) n (length t.breaks) ∷ breaks_inside t (n + 1) bs

abbrev pub rule_23 : Term → List RuleLine
rule_23 t = breaks_inside t 1 t.breaks

-- 24: too many main terms
abbrev pub rule_24 : Term → ℕ → ℕ → List RuleLine
rule_24 t main_terms terms = only (not t.extra) (where_true 24 (nat_le terms main_terms) main_terms terms ∷ [])

-- 53: the amount is 0, or Pell not in whole dollars
abbrev pub rule_53 : Bool → ℕ → RuleLine
rule_53 is_pell cents = where_true 53 (cents == 0 || is_pell && not (cents % 100 == 0)) cents 100

-- 62: a last day outside the term
abbrev pub rule_62 : ℕ → Option Term → List RuleLine
rule_62 last None = []
rule_62 last (Some t) = too_early 62 last t.first ∷ over 62 last t.last ∷ []

-- 91: the transaction isn't above the one in force
abbrev pub rule_91 : ℕ → ℕ → RuleLine
rule_91 transaction last = where_true 91 (nat_le transaction last) transaction last

-- the year's limit on Pell in cents, of an award: half as much again in an extra term of at least half intensity
abbrev pub is_half_time_extra : Option Term → ℕ → Bool
is_half_time_extra None intensity = false
is_half_time_extra (Some t) intensity = t.extra && nat_le 50 intensity

abbrev pub limit_of : Option Term → ℕ → ℕ → ℕ
limit_of term intensity award = (if is_half_time_extra term intensity then 150 else 100) * award
