-- The first broken rule of lists that are put together: that of the first list, or else that of the second.
use Rattle.std.proofs.Common.{◌≡◌, ℕ, refl, ap, ◌∙◌, List, [], ◌∷◌, ◌++◌, Option, Some, None}
use Rattle.std.specs.Prelude.{◌==◌}
use Rattle.aid_filings.specs.Calendars.{term_of}
use Rattle.aid_filings.specs.declared.filing.CalendarFacts.{CalendarFacts}
use Rattle.aid_filings.specs.declared.filing.Amount.{Amount}
use Rattle.aid_filings.specs.declared.filing.WithdrawFacts.{WithdrawFacts}
use Rattle.aid_types.specs.Programs.{rank}
use Rattle.aid_filings.specs.declared.filing.What.TheVariants.{Calendar, Pay, Withdraw}
use Rattle.aid_types.specs.declared.term.Term.{Term}
use Rattle.law_rules.specs.declared.facts.Facts.{Facts}
use Rattle.aid_types.specs.declared.line.RuleLine.{RuleLine}
use Rattle.aid_types.specs.RuleLines.{first_broken, lacks, stands, too_early}
use Rattle.law_rules.specs.Rules.{rule_21, rule_23, rule_24, rule_53, rule_62, rule_90}
use Rattle.aid_types.proofs.FirstBroken.{first_broken_append, first_of, three_groups}
use Rattle.law_rules.specs.Lines.{amount_lines, lines_of, past_cost, past_lifetime, past_payment, past_year, pell_lines, rule_52, rule_63, standing_lines}

-- a term that is filed: where it stands, its days, its breaks, and the other terms of its school
pub calendar_groups : (f : Facts) (school : ℕ) (c : CalendarFacts) →
    first_broken (lines_of f school (Calendar c))
    ≡ first_of (first_broken (rule_90 f.filings ∷ lacks 12 f.school_at school 0 ∷ stands 20 f.term_at c.term ∷ []))
    (first_of (first_broken (rule_21 (term_of c)))
    (first_of (first_broken (rule_23 (term_of c))) (first_broken (stands 22 f.overlap_at c.term ∷ rule_24 (term_of c) f.main_terms f.terms))))
calendar_groups f school c =
    let t : Term = term_of c in
    let standing : List RuleLine = rule_90 f.filings ∷ lacks 12 f.school_at school 0 ∷ stands 20 f.term_at c.term ∷ [] in
    first_broken_append standing (rule_21 t ++ (rule_23 t ++ (stands 22 f.overlap_at c.term ∷ rule_24 t f.main_terms f.terms)))
    ∙ ap (first_of (first_broken standing)) (three_groups (rule_21 t) (rule_23 t) (stands 22 f.overlap_at c.term ∷ rule_24 t f.main_terms f.terms))

-- a payment of Pell: what comes before its limits, the limits, and the cost
pub pell_groups : (f : Facts) (school cents : ℕ) →
    first_broken (amount_lines f school 3 cents)
    ≡ first_of (first_broken (pell_lines f school ++ rule_52 f 3 cents))
    (first_of (first_broken (past_payment 54 f cents ∷ past_year 55 f cents ∷ past_lifetime 56 f cents ∷ []))
    (first_broken (past_cost 57 f cents ∷ [])))
pell_groups f school cents =
    three_groups (pell_lines f school ++ rule_52 f 3 cents)
    (past_payment 54 f cents ∷ past_year 55 f cents ∷ past_lifetime 56 f cents ∷ []) (past_cost 57 f cents ∷ [])

-- a payment and a withdrawal
pub payment_groups : (f : Facts) (school : ℕ) (a : Amount) →
    first_broken (lines_of f school (Pay a))
    ≡ first_of (first_broken (standing_lines f school a.student a.year a.term))
    (first_of (first_broken (lacks 51 f.credits a.student a.term ∷ rule_53 (rank a.program == 3) a.cents ∷ []))
    (first_broken (amount_lines f school (rank a.program) a.cents)))
payment_groups f school a =
    three_groups (standing_lines f school a.student a.year a.term)
    (lacks 51 f.credits a.student a.term ∷ rule_53 (rank a.program == 3) a.cents ∷ []) (amount_lines f school (rank a.program) a.cents)

pub withdrawal_groups : (f : Facts) (school : ℕ) (w : WithdrawFacts) →
    first_broken (lines_of f school (Withdraw w))
    ≡ first_of (first_broken (standing_lines f school w.student w.year w.term))
    (first_of (first_broken (lacks 60 f.credits w.student w.term ∷ stands 61 f.withdrawn_at w.term ∷ []))
    (first_of (first_broken (rule_62 w.last f.term ++ (too_early 21 w.determined w.last ∷ []))) (first_broken (rule_63 f w.could))))
withdrawal_groups f school w =
    let standing : List RuleLine = standing_lines f school w.student w.year w.term in
    let enrolled : List RuleLine = lacks 60 f.credits w.student w.term ∷ stands 61 f.withdrawn_at w.term ∷ [] in
    let days : List RuleLine = rule_62 w.last f.term ++ (too_early 21 w.determined w.last ∷ []) in
    let could : List RuleLine = rule_63 f w.could in
    ap (λ (lines : List RuleLine). first_broken (standing ++ (enrolled ++ lines))) (joined f.term could)
    ∙ (first_broken_append standing (enrolled ++ (days ++ could)) ∙ ap (first_of (first_broken standing)) (three_groups enrolled days could))
  where
    joined : (t : Option Term) (could : List RuleLine) →
        rule_62 w.last t ++ (too_early 21 w.determined w.last ∷ could) ≡ (rule_62 w.last t ++ (too_early 21 w.determined w.last ∷ [])) ++ could
    joined None could = refl
    joined (Some t) could = refl
