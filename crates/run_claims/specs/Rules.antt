-- Which filings may follow a history, as one test for each kind. The office tells a refusal by the number of the first rule that is
-- broken; a law of this crate says that on a legal history this test holds exactly where no rule is broken. The numbers in the comments
-- are those of the rules; docs/DEFINITIONS.md has the source of what each keeps.
use Rattle.std.specs.Prelude.{◌≢◌, ℕ, ◌+◌, ◌*◌, ◌%◌, ◌==◌, ◌&&◌, ◌||◌, Bool, true, false, not, nat_le, nat_lt, IsTrue, List, [], ◌∷◌, length, sum, slice_index, Option, Some, None, is_none, is_some, if◌then◌else◌}
use Rattle.std.specs.List.{All, filter, list_all, list_any}
use Rattle.aid_types.specs.Programs.{rank}
use Rattle.aid_types.specs.declared.number.Key.{Key}
use Rattle.aid_types.specs.declared.term.Term.{Term}
use Rattle.aid_types.specs.declared.application.Application.{Application}
use Rattle.aid_books.specs.declared.book.Book.{Book}
use Rattle.aid_filings.specs.Calendars.{term_of}
use Rattle.aid_filings.specs.declared.filing.Filing.{Filing}
use Rattle.aid_filings.specs.declared.filing.What.{What}
use Rattle.aid_filings.specs.declared.filing.What.TheVariants.{Book as BookFiled, School, Calendar, Prior, Apply, Enroll, Originate, Pay, Withdraw, Repay, Adjust, Cost, Sent, Amend}
use Rattle.aid_filings.specs.declared.filing.WithdrawFacts.{WithdrawFacts}
use Rattle.law_terms.specs.Terms.{intensity_of, shares_day}
use Rattle.law_rules.specs.Rules.{limit_of}
use Rattle.law_terms.specs.Used.{use_of}
use Rattle.law_sai.specs.Fits.{is_size, size_for}
use Rattle.law_sai.specs.Formulas.{formula}
use Rattle.office_history.specs.Award.{award_under, scheduled}
use Rattle.office_history.specs.Net.{at_school_in_year, cell_at, cell_of, in_term, in_year, is_cell, net, net_at, owed, paid_after, pell_main, pell_term, pell_year, post, repaid, returned, sent, sent_cell, used_else}
use Rattle.office_history.specs.Past.{application, at_school, cost, credits, earliest, is_higher, originated_in, pell_payment_in, prior_in, terms_on_file, the_book, the_school, the_term, the_withdrawal}
use Rattle.office_history.specs.Positions.{determined_of, full_of, is_over, is_paid_beside, payment_at, payment_for, terms_of}
use Rattle.aid_types.specs.Limits.{fseog_limit, is_fseog, is_pell, most_filings, most_units}

-- 21: breaks in order: each comes after a day, its last day not before its first
abbrev pub in_order : ℕ → List (ℕ × ℕ) → Bool
in_order before [] = true
in_order before (b ∷ bs) = nat_lt before b.0 && nat_le b.0 b.1 && in_order b.1 bs

-- 21, 23: the days of a term are in order, and so are its breaks, which lie inside it
abbrev pub has_order : Term → Bool
has_order t = nat_le t.first t.last && in_order t.first t.breaks && list_all (λ b. nat_lt b.1 t.last) t.breaks

-- 62: the day lies in the term
abbrev pub is_in_days : ℕ → Option Term → Bool
is_in_days day None = false
is_in_days day (Some t) = nat_le t.first day && nat_le day t.last

-- 10, 92: there is a book, the birth year isn't above its year, and the family has the size that the formula asks for (own, on HEA 480(k))
abbrev pub fits_book : Option Book → Application → Bool
fits_book None a = false
fits_book (Some b) a = nat_le a.birth_year b.year && is_size (formula b a) (size_for (formula b a) a.married) a.family

-- of a student's aid in a term of a school's year
module _ (past : List Filing) (school student year term : ℕ) where
  -- 54 to 56: so many cents more of Pell are within the term's payment (34 CFR 690.63(b)), the year's limit (HEA 401(b)) and the lifetime limit (HEA 401(d)(5))
  abbrev pub keeps_pell : ℕ → Bool
  keeps_pell cents =
      nat_le (pell_term past school student year term + cents) (payment_at past (scheduled past student year) school student year term)
      && nat_le (pell_year past student year + cents) (limit_of (the_term past school year term) (intensity_of (credits past school student year term) (full_of (the_school past school))) (scheduled past student year))
      && nat_le (used_else past student year + use_of (pell_year past student year + cents) (scheduled past student year)) most_units

  -- 54 to 57, 63: so many cents more of Pell, of FSEOG (34 CFR 676.20) and of all programs, which the cost of attendance bounds (HEA 401(b)(3); own for all
  -- programs together), are within their limits; no cents more are within any
  abbrev pub keeps_limits : ℕ → ℕ → ℕ → Bool
  keeps_limits pell fseog all =
      (pell == 0 || keeps_pell pell) && (fseog == 0 || nat_le (net past (in_year student year 4) + fseog) fseog_limit)
      && (all == 0 || nat_le (net past (at_school_in_year school student year) + all) (100 * cost past school student year))

  -- 52: after a withdrawal so many cents more are within the post-withdrawal disbursement, and within what could have been disbursed of the program (34 CFR 668.22(a)(6))
  abbrev pub keeps_post : ℕ → ℕ → Option WithdrawFacts → Bool
  keeps_post program cents None = true
  keeps_post program cents (Some w) =
      nat_le (paid_after past (is_cell (cell_at school student year term program)) + cents) (slice_index w.could program)
      && nat_le (paid_after past (in_term school student year term) + cents) (post past (in_term school student year term))

  -- 12, 30, 31, 50, 51, 60: the school, the term, an application, an origination and credits are on file
  abbrev pub may_be_aided : Bool
  may_be_aided =
      is_some (the_school past school) && is_some (the_term past school year term) && is_some (application past student year)
      && is_some (earliest (at_school school (originated_in student year)) past) && not (credits past school student year term == 0)

-- 93: what was paid is within the limits of another award (own)
abbrev pub keeps_award : List Filing → ℕ → ℕ → ℕ → Bool
keeps_award past student year award =
    not (list_any (is_over past award student year) (terms_on_file past))
    && nat_le (pell_main past student year) (100 * award) && nat_le (pell_year past student year) (150 * award)
    && nat_le (used_else past student year + use_of (pell_year past student year) award) most_units

-- what may be filed, by its kind
abbrev pub may_file : List Filing → Key → What → Bool
may_file past key (BookFiled b) = key.school == 0 && is_none (the_book past b.year)
may_file past key (School s) = key.school == 0 && is_none (the_school past s.code)
may_file past key (Calendar c) =
    is_some (the_school past key.school) && is_none (the_term past key.school c.year c.term) && has_order (term_of c)
    && not (list_any (λ t. t.school == key.school && shares_day (term_of c) t.term) (terms_on_file past))
    && (c.extra || nat_lt (length (filter (λ t. t.school == key.school && (t.year == c.year && not t.term.extra)) (terms_on_file past))) (terms_of (the_school past key.school)))
may_file past key (Prior p) =
    key.school == 0 && nat_le p.units most_units && is_none (earliest (λ f. prior_in p.student f.what) past) && not (list_any (λ f. pell_payment_in p.student f.what) past)
may_file past key (Apply a) =
    (key.school == 0 || is_some (the_school past key.school)) && fits_book (the_book past a.year) a
    && is_higher (Some a) (application past a.student a.year) && keeps_award past a.student a.year (award_under (the_book past a.year) (Some a))
may_file past key (Enroll e) =
    is_some (the_school past key.school) && is_some (the_term past key.school e.year e.term) && not (e.credits == 0) && nat_le e.credits 40
    && is_none (the_withdrawal past key.school e.student e.year e.term)
    && nat_le (pell_term past key.school e.student e.year e.term) (payment_for past (scheduled past e.student e.year) key.school e.credits)
may_file past key (Originate o) =
    is_some (the_school past key.school) && is_some (application past o.student o.year)
    && is_none (earliest (at_school key.school (originated_in o.student o.year)) past) && not (o.cost == 0)
may_file past key (Pay a) =
    let pell = is_pell (rank a.program) in
    may_be_aided past key.school a.student a.year a.term && not (a.cents == 0)
    && (not pell || a.cents % 100 == 0 && not (scheduled past a.student a.year == 0)
    && not (list_any (is_paid_beside past key.school a.student (the_term past key.school a.year a.term)) (terms_on_file past)))
    && keeps_post past key.school a.student a.year a.term (rank a.program) a.cents (the_withdrawal past key.school a.student a.year a.term)
    && keeps_limits past key.school a.student a.year a.term (if pell then a.cents else 0) (if is_fseog (rank a.program) then a.cents else 0) a.cents
may_file past key (Withdraw w) =
    may_be_aided past key.school w.student w.year w.term && is_none (the_withdrawal past key.school w.student w.year w.term)
    && is_in_days w.last (the_term past key.school w.year w.term) && nat_le w.last w.determined
    && keeps_limits past key.school w.student w.year w.term (slice_index w.could 3) (slice_index w.could 4) (sum w.could)
may_file past key (Repay a) =
    is_some (the_school past key.school) && not (a.cents == 0) && nat_le (repaid past (is_cell (cell_of key a)) + a.cents) (owed past (is_cell (cell_of key a)))
may_file past key (Adjust a) =
    is_some (the_school past key.school) && is_some (the_term past key.school a.year a.term) && not (a.cents == 0)
    && is_none (the_withdrawal past key.school a.student a.year a.term) && nat_le a.cents (net_at past (cell_of key a))
may_file past key (Cost o) =
    is_some (the_school past key.school) && is_some (earliest (at_school key.school (originated_in o.student o.year)) past)
    && not (o.cost == 0) && nat_le (net past (at_school_in_year key.school o.student o.year)) (100 * o.cost)
may_file past key (Sent s) =
    is_some (the_school past key.school) && is_some (the_withdrawal past key.school s.student s.year s.term) && not (s.cents == 0)
    && nat_le (determined_of (the_withdrawal past key.school s.student s.year s.term)) s.day
    && nat_le (sent past (is_cell (sent_cell key s)) + s.cents) (returned past (is_cell (sent_cell key s)))
may_file past key (Amend a) = key.school == 0 || is_some (the_school past key.school)

-- 90: the office isn't full, and what is filed may be
abbrev pub may_follow : List Filing → Filing → Bool
may_follow past f = nat_lt (length past) most_filings && may_file past f.key f.what

-- each filing had a key of its own, and might follow those before it
abbrev pub AreAdmitted : List Filing → Type 0
AreAdmitted [] = Unit {0}
AreAdmitted (f ∷ past) = AreAdmitted past × All (λ g. g.key ≢ f.key) past × IsTrue (may_follow past f)
