-- The facts that the code reads of a history.
use Rattle.std.specs.Prelude.{ℕ, List, [], ◌∷◌, length, None}
use Rattle.aid_filings.specs.Calendars.{term_of}
use Rattle.aid_types.specs.Programs.{rank}
use Rattle.aid_types.specs.declared.number.Key.{Key}
use Rattle.aid_types.specs.declared.application.Application.{Application}
use Rattle.law_rules.specs.declared.facts.Facts.{Facts}
use Rattle.aid_filings.specs.declared.filing.Filing.{Filing}
use Rattle.aid_filings.specs.declared.filing.What.{What}
use Rattle.aid_filings.specs.declared.filing.What.TheVariants.{Book as BookFiled, School, Calendar, Prior, Apply, Enroll, Originate, Pay, Withdraw, Repay, Adjust, Cost, Sent, Amend}
use Rattle.office_history.specs.Past.{the_book, the_school, the_term, the_withdrawal, credits, cost, application, terms_on_file}
use Rattle.office_history.specs.Award.{ceiling, scheduled, unfit_under}
use Rattle.office_history.specs.Net.{cell_of, is_cell, net, cell_at, net_at, in_year, in_term, at_school_in_year, sent_cell, pell_term, pell_year, pell_main, used_else, owed, repaid, returned, sent, post, paid_after}
use Rattle.office_history.specs.Positions.{terms_of, full_of, book_at, school_at, term_at, prior_at, pell_at, cost_at, withdrawn_at, transaction_of, could_of, determined_of, least_code, is_paid_beside, term_over, overlap_at, main_term_count, award_filed}

-- no filings
abbrev pub no_facts : Facts
no_facts = record {
  filings = 0;
  school_at = 0;
  terms = 0;
  full = 0;
  code_at = 0;
  book_at = 0;
  term_at = 0;
  term = None;
  overlap_at = 0;
  main_terms = 0;
  prior_at = 0;
  pell_at = 0;
  transaction = 0;
  scheduled = 0;
  ceiling_index = 0;
  ceiling_bound = 0;
  cost_at = 0;
  cost = 0;
  credits = 0;
  withdrawn_at = 0;
  net = 0;
  pell_term = 0;
  pell_year = 0;
  pell_main = 0;
  fseog_year = 0;
  net_all = 0;
  used_else = 0;
  other_school = 0;
  after = 0;
  after_all = 0;
  post = 0;
  could = 0 ∷ 0 ∷ 0 ∷ 0 ∷ 0 ∷ 0 ∷ [];
  owed = 0;
  repaid = 0;
  determined = 0;
  returned = 0;
  sent = 0;
  unfit = None;
  next_scheduled = 0;
  term_over = None;
}

-- what is given for every kind
abbrev pub desk_facts : List Filing → ℕ → Facts
desk_facts past school = record no_facts {
  filings = length past;
  school_at = school_at past school;
  terms = terms_of (the_school past school);
  full = full_of (the_school past school);
}

-- what a payment and a withdrawal of a student, in a term of a school's year, read
abbrev pub aid_facts : List Filing → ℕ → ℕ → ℕ → ℕ → Facts
aid_facts past school student year term = record (desk_facts past school) {
  term_at = term_at past school year term;
  term = the_term past school year term;
  transaction = transaction_of (application past student year);
  scheduled = scheduled past student year;
  cost_at = cost_at past school student year;
  cost = cost past school student year;
  credits = credits past school student year term;
  withdrawn_at = withdrawn_at past school student year term;
  pell_term = pell_term past school student year term;
  pell_year = pell_year past student year;
  fseog_year = net past (in_year student year 4);
  net_all = net past (at_school_in_year school student year);
  used_else = used_else past student year;
}

-- what a payment of a program reads besides
abbrev pub payment_facts : List Filing → ℕ → ℕ → ℕ → ℕ → ℕ → Facts
payment_facts past school student year term program = record (aid_facts past school student year term) {
  ceiling_index = (ceiling past student year).index;
  ceiling_bound = (ceiling past student year).bound;
  other_school = least_code (is_paid_beside past school student (the_term past school year term)) (terms_on_file past);
  after = paid_after past (is_cell (cell_at school student year term program));
  after_all = paid_after past (in_term school student year term);
  post = post past (in_term school student year term);
  could = could_of (the_withdrawal past school student year term);
}

-- what an application that gives this award reads
abbrev pub apply_facts : List Filing → ℕ → Application → ℕ → Facts
apply_facts past school a award = record (desk_facts past school) {
  book_at = book_at past a.year;
  transaction = transaction_of (application past a.student a.year);
  pell_year = pell_year past a.student a.year;
  pell_main = pell_main past a.student a.year;
  used_else = used_else past a.student a.year;
  unfit = unfit_under (the_book past a.year) a;
  next_scheduled = award;
  term_over = term_over past award a.student a.year;
}

-- the facts of a filing: what the rules of its kind read; all else is left at 0
abbrev pub facts_of : List Filing → Key → What → Facts
facts_of past key (BookFiled b) = record (desk_facts past key.school) { book_at = book_at past b.year }
facts_of past key (School s) = record (desk_facts past key.school) { code_at = school_at past s.code }
facts_of past key (Calendar c) = record (desk_facts past key.school) {
  term_at = term_at past key.school c.year c.term;
  overlap_at = overlap_at past key.school (term_of c);
  main_terms = main_term_count past key.school c.year;
}
facts_of past key (Prior p) = record (desk_facts past key.school) {
  prior_at = prior_at past p.student;
  pell_at = pell_at past p.student;
}
facts_of past key (Apply a) = apply_facts past key.school a (award_filed past a)
facts_of past key (Enroll e) = record (desk_facts past key.school) {
  term_at = term_at past key.school e.year e.term;
  scheduled = scheduled past e.student e.year;
  withdrawn_at = withdrawn_at past key.school e.student e.year e.term;
  pell_term = pell_term past key.school e.student e.year e.term;
}
facts_of past key (Originate o) = record (desk_facts past key.school) {
  transaction = transaction_of (application past o.student o.year);
  cost_at = cost_at past key.school o.student o.year;
}
facts_of past key (Pay a) = payment_facts past key.school a.student a.year a.term (rank a.program)
facts_of past key (Withdraw w) = aid_facts past key.school w.student w.year w.term
facts_of past key (Repay a) = record (desk_facts past key.school) {
  owed = owed past (is_cell (cell_of key a));
  repaid = repaid past (is_cell (cell_of key a));
}
facts_of past key (Adjust a) = record (desk_facts past key.school) {
  term_at = term_at past key.school a.year a.term;
  withdrawn_at = withdrawn_at past key.school a.student a.year a.term;
  net = net_at past (cell_of key a);
}
facts_of past key (Cost o) = record (desk_facts past key.school) {
  cost_at = cost_at past key.school o.student o.year;
  net_all = net past (at_school_in_year key.school o.student o.year);
}
facts_of past key (Sent s) = record (desk_facts past key.school) {
  withdrawn_at = withdrawn_at past key.school s.student s.year s.term;
  determined = determined_of (the_withdrawal past key.school s.student s.year s.term);
  returned = returned past (is_cell (sent_cell key s));
  sent = sent past (is_cell (sent_cell key s));
}
facts_of past key (Amend a) = desk_facts past key.school
