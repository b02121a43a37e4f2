-- Each kind's plain test is that no line of its rules is broken.
use Rattle.std.proofs.Common.{◌≡◌, ℕ, ◌+◌, ◌*◌, ◌<◌, Bool, true, false, not, ◌&&◌, ◌||◌, List, [], ◌∷◌, ◌++◌, All, Option, Some, None, length, refl, ap, sym, ◌∙◌, cond}
use Rattle.std.specs.Prelude.{◌==◌, ◌%◌, nat_lt, nat_le, is_some, is_none, sum, slice_index}
use Rattle.aid_types.specs.Programs.{rank}
use Rattle.aid_types.specs.declared.number.Key.{Key}
use Rattle.aid_types.specs.declared.application.Application.{Application}
use Rattle.aid_books.specs.declared.book.Book.{Book}
use Rattle.aid_filings.specs.Calendars.{term_of}
use Rattle.aid_filings.specs.declared.filing.AmendFacts.{AmendFacts}
use Rattle.aid_filings.specs.declared.filing.Amount.{Amount}
use Rattle.aid_filings.specs.declared.filing.CalendarFacts.{CalendarFacts}
use Rattle.aid_filings.specs.declared.filing.EnrollFacts.{EnrollFacts}
use Rattle.aid_filings.specs.declared.filing.OriginateFacts.{OriginateFacts}
use Rattle.aid_filings.specs.declared.filing.PriorFacts.{PriorFacts}
use Rattle.aid_filings.specs.declared.filing.SchoolFacts.{SchoolFacts}
use Rattle.aid_filings.specs.declared.filing.SentFacts.{SentFacts}
use Rattle.aid_filings.specs.declared.filing.WithdrawFacts.{WithdrawFacts}
use Rattle.aid_filings.specs.declared.filing.Filing.{Filing}
use Rattle.aid_filings.specs.declared.filing.What.{What}
use Rattle.aid_filings.specs.declared.filing.What.TheVariants.{Book as BookFiled, School, Calendar, Prior, Apply, Enroll, Originate, Pay, Withdraw, Repay, Adjust, Cost, Sent, Amend}
use Rattle.aid_types.specs.declared.award.Refusal.{Refusal}
use Rattle.law_terms.specs.Terms.{intensity_of}
use Rattle.law_terms.specs.Used.{use_of}
use Rattle.aid_types.specs.declared.line.RuleLine.{RuleLine}
use Rattle.aid_types.specs.RuleLines.{told, too_early, lacks, over, only, stands, where_true}
use Rattle.law_rules.specs.Rules.{limit_of, rule_53, rule_62, rule_91, rule_21, rule_23, rule_24}
use Rattle.office_history.specs.Award.{award_under, ceiling, ceiling_under, scheduled, unfit_under}
use Rattle.office_history.specs.Net.{at_school_in_year, in_year, net, pell_main, pell_term, pell_year, used_else, cell_at, in_term, is_cell, paid_after, post}
use Rattle.office_history.specs.Past.{application, at_school, book_in, cost, credits, originated_in, pell_payment_in, prior_in, school_in, term_in, terms_on_file, the_book, the_school, the_term, the_withdrawal, withdrawal_in}
use Rattle.office_history.specs.Positions.{award_filed, book_at, full_of, if_fit, is_paid_beside, payment_at, term_over, could_of, cost_at, main_term_count, overlap_at, school_at, term_at, terms_of, transaction_of, withdrawn_at}
use Rattle.office_history.specs.Rules.{rules_of}
use Rattle.run_claims.proofs.SpelledLines.{past_cost, past_fseog, rule_58, rule_63, rule_93, pell_limits, rule_52}
use Rattle.office_history.proofs.Ceilings.{none_under}
use Rattle.run_claims.specs.Rules.{keeps_award, keeps_limits, keeps_pell, keeps_post, may_be_aided, may_file}
use Rattle.run_claims.proofs.Tests.{and_both, and_then, and_last, and_second, and_three, and_four, and_five, and_six, and_turn, below, within, is_nothing, limit_if, limit_or, or_then}
use Rattle.run_claims.proofs.Lines.{all_keep, keep_both, keep_only, keep_told, three_groups}
use Rattle.run_claims.proofs.Facts.{above, answered, applied, days_in_order, fits, in_days, no_code, none_over, no_overlap, none_passes, unanswered}

-- of what is filed with a key: the plain test, and no line broken
abbrev Same : List Filing → Key → What → Type 0
Same past key what = (nat_lt (length past) 1000000 && may_file past key what) ≡ all_keep (rules_of past key what)

-- the office isn't full, and what follows
with_room : (past : List Filing) {x y : Bool} → x ≡ y → (nat_lt (length past) 1000000 && x) ≡ (not (nat_le 1000000 (length past)) && y)
with_room past h = and_both (below (length past) 1000000) h

known_school : (past : List Filing) (code : ℕ) → is_some (the_school past code) ≡ not (school_at past code == 0)
known_school past code = answered (λ f. school_in code f.what) past

known_term : (past : List Filing) (school year number : ℕ) → is_some (the_term past school year number) ≡ not (term_at past school year number == 0)
known_term past school year number = answered (at_school school (term_in year number)) past

no_withdrawal : (past : List Filing) (school student year term : ℕ) →
    is_none (the_withdrawal past school student year term) ≡ not (nat_lt 0 (withdrawn_at past school student year term))
no_withdrawal past school student year term = unanswered (at_school school (withdrawal_in student year term)) past

book_is : (past : List Filing) (key : Key) (b : Book) → Same past key (BookFiled b)
book_is past key b = with_room past (and_both (is_nothing key.school) (and_last (unanswered (λ f. book_in b.year f.what) past)))

school_is : (past : List Filing) (key : Key) (s : SchoolFacts) → Same past key (School s)
school_is past key s = with_room past (and_both (is_nothing key.school) (and_last (unanswered (λ f. school_in s.code f.what) past)))

prior_is : (past : List Filing) (key : Key) (p : PriorFacts) → Same past key (Prior p)
prior_is past key p =
    with_room past (and_four (is_nothing key.school) (within p.units 600000)
    (unanswered (λ f. prior_in p.student f.what) past) (and_last (none_passes (λ f. pell_payment_in p.student f.what) past)))

originate_is : (past : List Filing) (key : Key) (o : OriginateFacts) → Same past key (Originate o)
originate_is past key o =
    with_room past (and_four (known_school past key.school) (applied (application past o.student o.year))
    (unanswered (at_school key.school (originated_in o.student o.year)) past) (and_last refl))

cost_is : (past : List Filing) (key : Key) (o : OriginateFacts) → Same past key (Cost o)
cost_is past key o =
    with_room past (and_four (known_school past key.school) (answered (at_school key.school (originated_in o.student o.year)) past) refl (and_last (within _ _)))

sent_is : (past : List Filing) (key : Key) (s : SentFacts) → Same past key (Sent s)
sent_is past key s =
    with_room past (and_five (known_school past key.school) (answered (at_school key.school (withdrawal_in s.student s.year s.term)) past) refl
    (within _ _) (and_last (within _ _)))

amend_is : (past : List Filing) (key : Key) (a : AmendFacts) → Same past key (Amend a)
amend_is past key a = with_room past (limit_or key.school (and_last (known_school past key.school)) ∙ sym (keep_only (nat_lt 0 key.school) (lacks 12 (school_at past key.school) key.school 0 ∷ [])))

repay_is : (past : List Filing) (key : Key) (a : Amount) → Same past key (Repay a)
repay_is past key a = with_room past (and_three (known_school past key.school) refl (and_last (within _ _)))

adjust_is : (past : List Filing) (key : Key) (a : Amount) → Same past key (Adjust a)
adjust_is past key a =
    with_room past (and_five (known_school past key.school) (known_term past key.school a.year a.term) refl
    (no_withdrawal past key.school a.student a.year a.term) (and_last (within _ _)))

enroll_is : (past : List Filing) (key : Key) (e : EnrollFacts) → Same past key (Enroll e)
enroll_is past key e =
    with_room past (and_six (known_school past key.school) (known_term past key.school e.year e.term) refl (within e.credits 40)
    (no_withdrawal past key.school e.student e.year e.term) (and_last (within _ _)) ∙ and_both refl (and_both refl (neither (e.credits == 0) (nat_lt 40 e.credits) _)))
  where
    neither : (a b r : Bool) → (not a && (not b && r)) ≡ (not (a || b) && r)
    neither true b r = refl
    neither false b r = refl

calendar_is : (past : List Filing) (key : Key) (c : CalendarFacts) → Same past key (Calendar c)
calendar_is past key c =
    with_room past (and_five (known_school past key.school) (unanswered (at_school key.school (term_in c.year c.term)) past)
    (days_in_order (term_of c)) (no_overlap past key.school (term_of c)) (main_terms c.extra)
    ∙ and_both refl (and_both refl (and_turn (all_keep (rule_21 (term_of c))) (all_keep (rule_23 (term_of c))) (all_keep others)
    ∙ sym (keep_both (rule_21 (term_of c)) (rule_23 (term_of c) ++ others) ∙ and_both refl (keep_both (rule_23 (term_of c)) others)))))
  where
    others : List RuleLine
    others = stands 22 (overlap_at past key.school (term_of c)) c.term
        ∷ rule_24 (term_of c) (main_term_count past key.school c.year) (terms_of (the_school past key.school))

    main_terms : (extra : Bool) → (extra || nat_lt (main_term_count past key.school c.year) (terms_of (the_school past key.school)))
        ≡ all_keep (only (not extra) (where_true 24 (nat_le (terms_of (the_school past key.school)) (main_term_count past key.school c.year))
        (main_term_count past key.school c.year) (terms_of (the_school past key.school)) ∷ []))
    main_terms true = refl
    main_terms false = and_last (below (main_term_count past key.school c.year) (terms_of (the_school past key.school)))

-- limits on a student's aid
module _ (past : List Filing) (school student year term : ℕ) where
  -- so many cents more of Pell, of FSEOG, of all programs, and after a withdrawal
  pell_kept : (of_term of_year of_lifetime cents : ℕ) →
      keeps_pell past school student year term cents ≡ all_keep (pell_limits past school student year term of_term of_year of_lifetime cents)
  pell_kept of_term of_year of_lifetime cents =
      and_three (within (pell_term past school student year term + cents) (payment_at past (scheduled past student year) school student year term))
      (within (pell_year past student year + cents) (limit_of (the_term past school year term)
      (intensity_of (credits past school student year term) (full_of (the_school past school))) (scheduled past student year)))
      (and_last (within (used_else past student year + use_of (pell_year past student year + cents) (scheduled past student year)) 600000))

  fseog_kept : (rule cents : ℕ) → nat_le (net past (in_year student year 4) + cents) 400000 ≡ all_keep (past_fseog past school student year term rule cents ∷ [])
  fseog_kept rule cents = and_last (within (net past (in_year student year 4) + cents) 400000)

  cost_kept : (rule cents : ℕ) → nat_le (net past (at_school_in_year school student year) + cents) (100 * cost past school student year)
      ≡ all_keep (past_cost past school student year term rule cents ∷ [])
  cost_kept rule cents = and_last (within (net past (at_school_in_year school student year) + cents) (100 * cost past school student year))

  post_kept : (program cents : ℕ) → keeps_post past school student year term program cents (the_withdrawal past school student year term)
      ≡ all_keep (rule_52 past school student year term program cents)
  post_kept program cents =
      go (the_withdrawal past school student year term) (nat_lt 0 (withdrawn_at past school student year term)) (no_withdrawal past school student year term)
    where
      go : (o : Option WithdrawFacts) (b : Bool) → is_none o ≡ not b → keeps_post past school student year term program cents o
          ≡ all_keep (only b (over 52 (paid_after past (is_cell (cell_at school student year term program)) + cents) (slice_index (could_of o) program)
          ∷ over 52 (paid_after past (in_term school student year term) + cents) (post past (in_term school student year term)) ∷ []))
      go None false e = refl
      go None true e = absurd (let bad : ⊥ = cc in bad)
      go (Some w) true e =
          and_both (within (paid_after past (is_cell (cell_at school student year term program)) + cents) (slice_index w.could program))
          (and_last (within (paid_after past (in_term school student year term) + cents) (post past (in_term school student year term))))
      go (Some w) false e = absurd (let bad : ⊥ = cc in bad)

  -- limits on what is tried where it isn't 0
  could_kept : (pell fseog all : ℕ) → keeps_limits past school student year term pell fseog all
      ≡ all_keep (only (nat_lt 0 pell) (pell_limits past school student year term 63 63 63 pell)
      ++ (only (nat_lt 0 fseog) (past_fseog past school student year term 63 fseog ∷ []) ++ only (nat_lt 0 all) (past_cost past school student year term 63 all ∷ [])))
  could_kept pell fseog all =
      three_groups (only (nat_lt 0 pell) (pell_limits past school student year term 63 63 63 pell))
      (only (nat_lt 0 fseog) (past_fseog past school student year term 63 fseog ∷ [])) (only (nat_lt 0 all) (past_cost past school student year term 63 all ∷ []))
      (tried pell (pell_limits past school student year term 63 63 63 pell) (pell_kept 63 63 63 pell))
      (tried fseog (past_fseog past school student year term 63 fseog ∷ []) (fseog_kept 63 fseog))
      (tried all (past_cost past school student year term 63 all ∷ []) (cost_kept 63 all))
    where
      tried : (n : ℕ) (lines : List RuleLine) {x : Bool} → x ≡ all_keep lines → (n == 0 || x) ≡ all_keep (only (nat_lt 0 n) lines)
      tried n lines {x} h = limit_or n h ∙ sym (keep_only (nat_lt 0 n) lines)

  -- limits on an amount of one program
  amount_kept : (pell fseog : Bool) (cents : ℕ) → (cents == 0) ≡ false →
      keeps_limits past school student year term (cond pell cents 0) (cond fseog cents 0) cents
      ≡ all_keep (only pell (pell_limits past school student year term 54 55 56 cents)
      ++ (only fseog (past_fseog past school student year term 55 cents ∷ []) ++ (past_cost past school student year term 57 cents ∷ [])))
  amount_kept pell fseog cents some =
      three_groups (only pell (pell_limits past school student year term 54 55 56 cents))
      (only fseog (past_fseog past school student year term 55 cents ∷ [])) (past_cost past school student year term 57 cents ∷ [])
      (tried pell (keeps_pell past school student year term) (pell_limits past school student year term 54 55 56 cents) (pell_kept 54 55 56 cents))
      (tried fseog (λ n. nat_le (net past (in_year student year 4) + n) 400000) (past_fseog past school student year term 55 cents ∷ []) (fseog_kept 55 cents))
      (limit_if true cents (λ n. nat_le (net past (at_school_in_year school student year) + n) (100 * cost past school student year)) some ∙ cost_kept 57 cents)
    where
      tried : (p : Bool) (keeps : ℕ → Bool) (lines : List RuleLine) → keeps cents ≡ all_keep lines → (cond p cents 0 == 0 || keeps (cond p cents 0)) ≡ all_keep (only p lines)
      tried p keeps lines h = limit_if p cents keeps some ∙ or_then (not p) h ∙ sym (keep_only p lines)

  -- the lines that a payment and a withdrawal begin with, after the first
  abbrev later_lines : ℕ → List RuleLine
  later_lines rule =
      lacks 31 (transaction_of (application past student year)) student year ∷ lacks 50 (cost_at past school student year) student school
      ∷ lacks rule (credits past school student year term) student term ∷ []

  abbrev aided_lines : ℕ → List RuleLine
  aided_lines rule = lacks 12 (school_at past school) school 0 ∷ lacks 30 (term_at past school year term) term 0 ∷ later_lines rule

  aided_kept : (rule : ℕ) → may_be_aided past school student year term ≡ all_keep (aided_lines rule)
  aided_kept rule =
      and_five (known_school past school) (known_term past school year term) (applied (application past student year))
      (answered (at_school school (originated_in student year)) past) (and_last refl)

  -- where these lines are kept the term is on file
  aided_term : (rule : ℕ) → all_keep (aided_lines rule) ≡ true → is_some (the_term past school year term) ≡ true
  aided_term rule h =
      known_term past school year term ∙ and_second (not (school_at past school == 0)) (not (term_at past school year term == 0)) (all_keep (later_lines rule)) h

withdraw_is : (past : List Filing) (key : Key) (w : WithdrawFacts) → Same past key (Withdraw w)
withdraw_is past key w =
    with_room past (and_five (aided_kept past key.school w.student w.year w.term 60) (no_withdrawal past key.school w.student w.year w.term) refl
    (within w.last w.determined) (could_kept past key.school w.student w.year w.term (slice_index w.could 3) (slice_index w.could 4) (sum w.could))
    ∙ and_then refl (λ aided. and_both refl (and_both (in_days w.last (the_term past key.school w.year w.term) (aided_term past key.school w.student w.year w.term 60 aided)) refl))
    ∙ sym (keep_both aided_first (stands 61 (withdrawn_at past key.school w.student w.year w.term) w.term ∷ days ++ rest) ∙ and_both refl (and_both refl (keep_both days rest))))
  where
    aided_first : List RuleLine
    aided_first = aided_lines past key.school w.student w.year w.term 60

    days : List RuleLine
    days = rule_62 w.last (the_term past key.school w.year w.term)

    rest : List RuleLine
    rest = too_early 21 w.determined w.last ∷ rule_63 past key.school w.student w.year w.term w.could

-- limits of an award
award_kept : (past : List Filing) (student year award : ℕ) → keeps_award past student year award ≡ all_keep (rule_93 past student year award)
award_kept past student year award =
    and_four (none_over past award student year ∙ sym (keep_told (term_over past award student year)))
    (within (pell_main past student year) (100 * award)) (within (pell_year past student year) (150 * award))
    (and_last (within (used_else past student year + use_of (pell_year past student year) award) 600000))
    ∙ sym (keep_both (told (term_over past award student year)) (over 93 (pell_main past student year) (100 * award)
    ∷ over 93 (pell_year past student year) (150 * award) ∷ over 93 (used_else past student year + use_of (pell_year past student year) award) 600000 ∷ []))

apply_is : (past : List Filing) (key : Key) (a : Application) → Same past key (Apply a)
apply_is past key a =
    with_room past (and_four schools (fits (the_book past a.year) a ∙ and_both (answered (λ f. book_in a.year f.what) past) refl)
    (above a (application past a.student a.year)) (award_kept past a.student a.year (award_under (the_book past a.year) (Some a)))
    ∙ where_fit (all_keep (only (nat_lt 0 key.school) first)) (not (book_at past a.year == 0)) (is_none (unfit_under (the_book past a.year) a))
    (not (nat_le a.transaction (transaction_of (application past a.student a.year))))
    (all_keep (rule_93 past a.student a.year (award_under (the_book past a.year) (Some a)))) (all_keep (rule_93 past a.student a.year (award_filed past a)))
    (λ e. ap (λ (n : ℕ). all_keep (rule_93 past a.student a.year n)) (filed (unfit_under (the_book past a.year) a) e))
    ∙ sym (keep_both (only (nat_lt 0 key.school) first) (lacks 10 (book_at past a.year) a.year 0 ∷ told (unfit_under (the_book past a.year) a) ++ rest)
    ∙ and_both refl (and_both refl (keep_both (told (unfit_under (the_book past a.year) a)) rest ∙ and_both (keep_told (unfit_under (the_book past a.year) a)) refl))))
  where
    first : List RuleLine
    first = lacks 12 (school_at past key.school) key.school 0 ∷ []

    rest : List RuleLine
    rest = rule_91 a.transaction (transaction_of (application past a.student a.year)) ∷ rule_93 past a.student a.year (award_filed past a)

    schools : (key.school == 0 || is_some (the_school past key.school)) ≡ all_keep (only (nat_lt 0 key.school) first)
    schools = limit_or key.school (and_last (known_school past key.school)) ∙ sym (keep_only (nat_lt 0 key.school) first)

    filed : (r : Option Refusal) → is_none r ≡ true →
        award_under (the_book past a.year) (Some a) ≡ if_fit r (award_under (the_book past a.year) (Some a))
    filed None e = refl
    filed (Some r) e = absurd (let bad : ⊥ = cc in bad)

    where_fit : (s b f h r v : Bool) → (f ≡ true → r ≡ v) → (s && ((b && f) && (h && r))) ≡ (s && (b && (f && (h && v))))
    where_fit false b f h r v e = refl
    where_fit true false f h r v e = refl
    where_fit true true false h r v e = refl
    where_fit true true true h r v e = ap (λ (x : Bool). h && x) (e refl)

-- a payment: the least code of the terms beside is told only where each term's school has a code above 0
pay_is : (past : List Filing) (key : Key) (a : Amount) → All (λ t. 0 < t.school) (terms_on_file past) → Same past key (Pay a)
pay_is past key a coded =
    with_room past (by_amount (a.cents == 0) is_pell (a.cents % 100 == 0) (not (scheduled past a.student a.year == 0))
    (nat_lt 0 (ceiling past a.student a.year).index) (below_ceiling (the_book past a.year) (application past a.student a.year))
    (aided_kept past key.school a.student a.year a.term 51)
    (no_code (is_paid_beside past key.school a.student (the_term past key.school a.year a.term)) (terms_on_file past) coded)
    (post_kept past key.school a.student a.year a.term (rank a.program) a.cents)
    (λ some. amount_kept past key.school a.student a.year a.term is_pell (rank a.program == 4) a.cents some)
    ∙ sym (keep_both (aided_lines past key.school a.student a.year a.term 51) (rule_53 is_pell a.cents ∷ only is_pell pell ++ (after ++ limits))
    ∙ and_both refl (and_both refl (keep_both (only is_pell pell) (after ++ limits) ∙ and_both (keep_only is_pell pell) (keep_both after limits)))))
  where
    is_pell : Bool
    is_pell = rank a.program == 3

    pell : List RuleLine
    pell = stands 43 (ceiling past a.student a.year).index (ceiling past a.student a.year).bound
        ∷ where_true 40 (scheduled past a.student a.year == 0) (transaction_of (application past a.student a.year)) 0
        ∷ rule_58 past key.school a.student a.year a.term ∷ []

    after : List RuleLine
    after = rule_52 past key.school a.student a.year a.term (rank a.program) a.cents

    limits : List RuleLine
    limits = only is_pell (pell_limits past key.school a.student a.year a.term 54 55 56 a.cents)
        ++ (only (rank a.program == 4) (past_fseog past key.school a.student a.year a.term 55 a.cents ∷ [])
        ++ (past_cost past key.school a.student a.year a.term 57 a.cents ∷ []))

    not_zero : (n : ℕ) → not (n == 0) ≡ true → n ≡ 0 → ⊥
    not_zero n awarded none = let same : (n == 0) ≡ true = rw none refl in cc

    -- a student who is awarded Pell is below the ceiling
    below_ceiling : (b : Option Book) (o : Option Application) → not (award_under b o == 0) ≡ true → nat_lt 0 (ceiling_under b o).index ≡ false
    below_ceiling None o awarded = refl
    below_ceiling (Some b) None awarded = refl
    below_ceiling (Some b) (Some a) awarded = rw (none_under (Some b) a (not_zero (award_under (Some b) (Some a)) awarded)) refl

    inner : (none pell dollars award over y n r v : Bool) → (award ≡ true → over ≡ false) → y ≡ n → (none ≡ false → r ≡ v) →
        (not none && ((not pell || dollars && award && y) && r))
        ≡ (not (none || pell && not dollars) && ((not pell || (not over && (award && (n && true)))) && v))
    inner true pell dollars award over y n r v b q s = refl
    inner false false dollars award over y n r v b q s = s refl
    inner false true false award over y n r v b q s = refl
    inner false true true false true y n r v b q s = refl
    inner false true true false false y n r v b q s = refl
    inner false true true true true y n r v b q s = let off : true ≡ false = b refl in cc
    inner false true true true false y n r v b q s = and_both (and_last q) (s refl)

    by_amount : (none pell dollars award over : Bool) → (award ≡ true → over ≡ false) → {x y z w m n k l : Bool} →
        x ≡ m → y ≡ n → z ≡ k → (none ≡ false → w ≡ l) →
        (x && not none && (not pell || dollars && award && y) && z && w)
        ≡ (m && (not (none || pell && not dollars) && ((not pell || (not over && (award && (n && true)))) && (k && l))))
    by_amount none pell dollars award over below {x} {y} {z} {w} {m} {n} {k} {l} p q r s =
        and_five p refl refl r refl ∙ and_both refl (inner none pell dollars award over y n (k && w) (k && l) below q (λ e. and_both refl (s e)))

-- what may be filed in an office that isn't full, by its kind
pub kind_is : (past : List Filing) (key : Key) (what : What) → All (λ t. 0 < t.school) (terms_on_file past) → Same past key what
kind_is past key (BookFiled b) coded = book_is past key b
kind_is past key (School s) coded = school_is past key s
kind_is past key (Calendar c) coded = calendar_is past key c
kind_is past key (Prior p) coded = prior_is past key p
kind_is past key (Apply a) coded = apply_is past key a
kind_is past key (Enroll e) coded = enroll_is past key e
kind_is past key (Originate o) coded = originate_is past key o
kind_is past key (Pay a) coded = pay_is past key a coded
kind_is past key (Withdraw w) coded = withdraw_is past key w
kind_is past key (Repay a) coded = repay_is past key a
kind_is past key (Adjust a) coded = adjust_is past key a
kind_is past key (Cost o) coded = cost_is past key o
kind_is past key (Sent s) coded = sent_is past key s
kind_is past key (Amend a) coded = amend_is past key a
