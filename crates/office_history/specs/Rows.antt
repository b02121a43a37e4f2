-- What is on file of one thing, told of a history.
use Rattle.std.specs.Prelude.{ℕ, zero, suc, ◌==◌, ◌&&◌, Bool, false, not, List, length, reverse, Option, Some, None}
use Rattle.std.specs.List.{filter, slice_get}
use Rattle.aid_filings.specs.Calendars.{term_of}
use Rattle.aid_filings.specs.declared.filing.CalendarFacts.{CalendarFacts}
use Rattle.aid_filings.specs.declared.filing.Filing.{Filing}
use Rattle.aid_filings.specs.declared.filing.What.{What}
use Rattle.aid_filings.specs.declared.filing.What.TheVariants.{Apply, Enroll}
use Rattle.aid_types.specs.declared.application.Application.{Application}
use Rattle.aid_types.specs.Programs.{six}
use Rattle.law_terms.specs.Terms.{shares_day}
use Rattle.office_history.specs.Award.{ceiling, scheduled}
use Rattle.office_history.specs.Net.{cell_at, at_school_in_year, in_term, in_year, is_cell, net, owed, paid, paid_after, pell_main, post, repaid, returned, sent, taken, used}
use Rattle.office_history.specs.Positions.{application_at, cost_at, could_of, determined_of, first_term_at, full_of, pell_at, prior_at, school_at, term_at, terms_of, transaction_of, withdrawn_at}
use Rattle.office_history.specs.Past.{application, cost, credits, terms_on_file, the_school, the_term, the_withdrawal}
use Rattle.office_history.specs.declared.account.Account.{Account}
use Rattle.office_history.specs.declared.rows.CalendarRow.{CalendarRow}
use Rattle.office_history.specs.declared.rows.PlaceRow.{PlaceRow}
use Rattle.office_history.specs.declared.rows.SchoolRow.{SchoolRow}
use Rattle.office_history.specs.declared.rows.SchoolYearRow.{SchoolYearRow}
use Rattle.office_history.specs.declared.rows.StudentRow.{StudentRow}
use Rattle.office_history.specs.declared.rows.TermRow.{TermRow}
use Rattle.office_history.specs.declared.rows.YearRow.{YearRow}

-- the filing at a position, which counts from 1 at the oldest
abbrev pub filing_in : List Filing → ℕ → Option Filing
filing_in past zero = None
filing_in past (suc i) = slice_get (reverse past) i

-- the application that a filing is
abbrev pub filed_application : What → Option Application
filed_application (Apply a) = Some a
filed_application _ = None

abbrev pub told_application : Option Filing → Option Application
told_application None = None
told_application (Some f) = filed_application f.what

-- a school, and its term of a year and a number
abbrev pub school_row : List Filing → ℕ → SchoolRow
school_row past code = record { at = school_at past code; terms = terms_of (the_school past code); full = full_of (the_school past code) }

abbrev pub term_row : List Filing → ℕ → ℕ → ℕ → TermRow
term_row past school year number = record { at = term_at past school year number; term = the_term past school year number }

-- what a school's terms say of a calendar
abbrev pub calendar_row : List Filing → ℕ → CalendarFacts → CalendarRow
calendar_row past school c = record {
  term_at = term_at past school c.year c.term;
  overlap_at = first_term_at (λ t. t.school == school && shares_day (term_of c) t.term) (terms_on_file past);
  main_terms = length (filter (λ t. t.school == school && (t.year == c.year && not t.term.extra)) (terms_on_file past));
}

-- what moved in a student's term at a school
abbrev pub account_row : List Filing → ℕ → ℕ → ℕ → ℕ → Account
account_row past school student year term = record {
  paid = six (λ p. paid past (is_cell (cell_at school student year term p)));
  taken = six (λ p. taken past (is_cell (cell_at school student year term p)));
  owed = six (λ p. owed past (is_cell (cell_at school student year term p)));
  repaid = six (λ p. repaid past (is_cell (cell_at school student year term p)));
  returned = six (λ p. returned past (is_cell (cell_at school student year term p)));
  sent = six (λ p. sent past (is_cell (cell_at school student year term p)));
  after = six (λ p. paid_after past (is_cell (cell_at school student year term p)));
  after_all = paid_after past (in_term school student year term);
  post = post past (in_term school student year term);
}

abbrev pub place_row : List Filing → ℕ → ℕ → ℕ → ℕ → PlaceRow
place_row past school student year term = record {
  credits = credits past school student year term;
  withdrawn_at = withdrawn_at past school student year term;
  could = could_of (the_withdrawal past school student year term);
  determined = determined_of (the_withdrawal past school student year term);
  account = account_row past school student year term;
}

-- a student's year at all schools, and at one
abbrev pub year_row : List Filing → ℕ → ℕ → YearRow
year_row past student year = record {
  transaction = transaction_of (application past student year);
  application_at = application_at past student year;
  scheduled = scheduled past student year;
  ceiling = ceiling past student year;
  nets = six (λ p. net past (in_year student year p));
  main = pell_main past student year;
}

abbrev pub school_year_row : List Filing → ℕ → ℕ → ℕ → SchoolYearRow
school_year_row past school student year = record {
  cost_at = cost_at past school student year;
  cost = cost past school student year;
  net = net past (at_school_in_year school student year);
}

-- a student
abbrev pub student_row : List Filing → ℕ → StudentRow
student_row past student = record { prior_at = prior_at past student; pell_at = pell_at past student; used = used past student }

-- how many terms a school has on file
abbrev pub terms_at : List Filing → ℕ → ℕ
terms_at past school = length (filter (λ t. t.school == school) (terms_on_file past))

-- what is filed is an enrollment of the student
abbrev pub is_enrollment : ℕ → What → Bool
is_enrollment student (Enroll e) = e.student == student
is_enrollment student _ = false
