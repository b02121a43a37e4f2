-- Where things stand in a history, and the terms that a rule looks for.
use Rattle.std.specs.Prelude.{ℕ, zero, suc, ◌+◌, ◌*◌, ◌==◌, ◌&&◌, Bool, true, false, not, nat_lt, min, List, [], ◌∷◌, length, Option, Some, None, is_some, if◌then◌else◌}
use Rattle.std.specs.List.{filter}
use Rattle.aid_types.specs.declared.term.Term.{Term}
use Rattle.aid_filings.specs.declared.filing.SchoolFacts.{SchoolFacts}
use Rattle.aid_types.specs.declared.application.Application.{Application}
use Rattle.aid_filings.specs.declared.filing.WithdrawFacts.{WithdrawFacts}
use Rattle.aid_types.specs.declared.award.Refusal.{Refusal}
use Rattle.aid_filings.specs.declared.filing.Filing.{Filing}
use Rattle.law_terms.specs.Terms.{intensity_of, payment_of, shares_day}
use Rattle.office_history.specs.Past.{first_at, book_in, school_in, term_in, prior_in, application, application_in, is_higher, originated_in, withdrawal_in, pell_payment_in, at_school, the_book, the_school, credits, FiledTerm, terms_on_file, first_of_two}
use Rattle.office_history.specs.Award.{award_under, unfit_under}
use Rattle.office_history.specs.Net.{pell_term}

abbrev pub terms_of : Option SchoolFacts → ℕ
terms_of None = 0
terms_of (Some s) = s.terms

abbrev pub full_of : Option SchoolFacts → ℕ
full_of None = 0
full_of (Some s) = s.full

-- positions
abbrev pub book_at : List Filing → ℕ → ℕ
book_at past year = first_at (λ f. is_some (book_in year f.what)) past

abbrev pub school_at : List Filing → ℕ → ℕ
school_at past code = first_at (λ f. is_some (school_in code f.what)) past

abbrev pub term_at : List Filing → ℕ → ℕ → ℕ → ℕ
term_at past school year number = first_at (λ f. is_some (at_school school (term_in year number) f)) past

abbrev pub prior_at : List Filing → ℕ → ℕ
prior_at past student = first_at (λ f. is_some (prior_in student f.what)) past

abbrev pub pell_at : List Filing → ℕ → ℕ
pell_at past student = first_at (λ f. pell_payment_in student f.what) past

abbrev pub cost_at : List Filing → ℕ → ℕ → ℕ → ℕ
cost_at past school student year = first_at (λ f. is_some (at_school school (originated_in student year) f)) past

abbrev pub withdrawn_at : List Filing → ℕ → ℕ → ℕ → ℕ → ℕ
withdrawn_at past school student year term = first_at (λ f. is_some (at_school school (withdrawal_in student year term) f)) past

-- the position of the application in force of student and year
abbrev pub application_at : List Filing → ℕ → ℕ → ℕ
application_at [] student year = 0
application_at (f ∷ past) student year =
    if is_higher (application_in student year f.what) (application past student year) then length past + 1
    else application_at past student year

abbrev pub transaction_of : Option Application → ℕ
transaction_of None = 0
transaction_of (Some a) = a.transaction

abbrev pub could_of : Option WithdrawFacts → List ℕ
could_of None = 0 ∷ 0 ∷ 0 ∷ 0 ∷ 0 ∷ 0 ∷ []
could_of (Some w) = w.could

-- the day on which a withdrawal was determined, 0 where there is none
abbrev pub determined_of : Option WithdrawFacts → ℕ
determined_of None = 0
determined_of (Some w) = w.determined

-- the position of the earliest term on file that passes
abbrev pub first_term_at : (FiledTerm → Bool) → List FiledTerm → ℕ
first_term_at p [] = 0
first_term_at p (t ∷ ts) = first_of_two (p t) (first_term_at p ts) t.position

-- the least code of the terms that pass, 0 where there is none
abbrev pub lesser_code : Bool → ℕ → ℕ → ℕ
lesser_code false code rest = rest
lesser_code true code zero = code
lesser_code true code (suc n) = min code (suc n)

abbrev pub least_code : (FiledTerm → Bool) → List FiledTerm → ℕ
least_code p [] = 0
least_code p (t ∷ ts) = lesser_code (p t) t.school (least_code p ts)

-- a term on file of another school that shares a day with this one and holds net Pell of the student
abbrev pub is_paid_beside : List Filing → ℕ → ℕ → Option Term → FiledTerm → Bool
is_paid_beside past school student None t = false
is_paid_beside past school student (Some this) t =
    not (t.school == school) && (shares_day this t.term && nat_lt 0 (pell_term past t.school student t.year t.term.number))

-- the payment of a term in cents at an award, by credits and at the credits in force
abbrev pub payment_for : List Filing → ℕ → ℕ → ℕ → ℕ
payment_for past award school credits =
    100 * payment_of award (intensity_of credits (full_of (the_school past school))) (terms_of (the_school past school))

abbrev pub payment_at : List Filing → ℕ → ℕ → ℕ → ℕ → ℕ → ℕ
payment_at past award school student year term = payment_for past award school (credits past school student year term)

-- a term on file of the year holds more net Pell than an award gives
abbrev pub is_over : List Filing → ℕ → ℕ → ℕ → FiledTerm → Bool
is_over past award student year t =
    t.year == year && nat_lt (payment_at past award t.school student year t.term.number) (pell_term past t.school student year t.term.number)

-- of two terms the one with the lesser school code, then the lesser number
abbrev pub earlier_term : FiledTerm → Option FiledTerm → Option FiledTerm
earlier_term t None = Some t
earlier_term t (Some u) =
    if nat_lt (9 * t.school + t.term.number) (9 * u.school + u.term.number) then Some t else Some u

abbrev pub least_term : List FiledTerm → Option FiledTerm
least_term [] = None
least_term (t ∷ ts) = earlier_term t (least_term ts)

abbrev pub told_over : List Filing → ℕ → ℕ → ℕ → Option FiledTerm → Option Refusal
told_over past award student year None = None
told_over past award student year (Some t) = Some (record {
  rule = 93;
  kept = pell_term past t.school student year t.term.number;
  bound = payment_at past award t.school student year t.term.number;
})

abbrev pub term_over : List Filing → ℕ → ℕ → ℕ → Option Refusal
term_over past award student year =
    told_over past award student year (least_term (filter (is_over past award student year) (terms_on_file past)))

-- the position of the earliest term of the school that shares a day with a term, and how many main terms it has in a year
abbrev pub overlap_at : List Filing → ℕ → Term → ℕ
overlap_at past school this = first_term_at (λ t. t.school == school && shares_day this t.term) (terms_on_file past)

abbrev pub main_term_count : List Filing → ℕ → ℕ → ℕ
main_term_count past school year = length (filter (λ t. t.school == school && (t.year == year && not t.term.extra)) (terms_on_file past))

-- the award that a filed application gives, 0 where it is unfit
abbrev pub if_fit : Option Refusal → ℕ → ℕ
if_fit None award = award
if_fit (Some r) award = 0

-- the award that a filed application gives, under the year's book
abbrev pub award_filed : List Filing → Application → ℕ
award_filed past a = if_fit (unfit_under (the_book past a.year) a) (award_under (the_book past a.year) (Some a))
