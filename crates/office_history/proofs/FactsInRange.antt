-- The facts of a legal history are in the ranges that the rules are tried in.
use Rattle.std.proofs.Common.{◌≡◌, ℕ, ◌≤◌, arith, refl, Bool, ℤ, pos, negsuc, ◌≤ℤ◌, true, List, Option, Some, None, zero-le, inl, inr}
use Rattle.std.specs.Prelude.{is_some}
use Rattle.std.specs.Int.{int_max}
use Rattle.std.proofs.lemmas.Int.{ints, clamps}
use Rattle.aid_types.specs.Nearest.{to5}
use Rattle.aid_types.proofs.NearestLemmas.{half_up-le}
use Rattle.aid_types.specs.Ranges.{IsBetween}
use Rattle.aid_types.specs.Programs.{rank}
use Rattle.aid_books.specs.declared.book.Book.{Book}
use Rattle.aid_types.specs.declared.application.Application.{Application}
use Rattle.aid_types.specs.declared.number.Key.{Key}
use Rattle.aid_filings.specs.declared.filing.SchoolFacts.{SchoolFacts}
use Rattle.aid_filings.specs.declared.filing.Filing.{Filing}
use Rattle.aid_filings.specs.declared.filing.What.{What}
use Rattle.aid_filings.specs.declared.filing.What.TheVariants.{Book as BookFiled, School, Calendar, Prior, Apply, Enroll, Originate, Pay, Withdraw, Repay, Adjust, Cost, Sent, Amend}
use Rattle.law_rules.specs.declared.facts.Facts.{Facts}
use Rattle.law_rules.specs.InRange.{AreFactsInRange, IsSum}
use Rattle.law_sai.specs.Formulas.{formula}
use Rattle.law_sai.specs.Indices.{index_of}
use Rattle.law_pell.specs.Award.{decision_of}
use Rattle.law_pell.proofs.AwardLaws.{decision_under-award}
use Rattle.office_history.specs.Past.{school_in, the_book, the_school, application}
use Rattle.office_history.specs.Award.{award_under, scheduled, scheduled_of}
use Rattle.office_history.specs.Net.{Cell, net, paid_after, repaid, sent}
use Rattle.office_history.specs.FactsOf.{aid_facts, facts_of, payment_facts}
use Rattle.office_history.specs.Positions.{full_of, school_at, terms_of}
use Rattle.office_history.specs.Answer.{IsLegal}
use Rattle.office_history.proofs.Asked.{some_told}
use Rattle.office_history.proofs.Legal.{legal_is_short}
use Rattle.office_history.proofs.Ranges.{after_is_paid, credits_in_range, paid_is_small, repaid_is_small, sent_is_small}

-- the figures of a school on file are those of its type
pub school_in_range : (past : List Filing) (code : ℕ) → (school_at past code ≡ 0 → ⊥) → IsBetween 2 3 (terms_of (the_school past code)) × IsBetween 1 40 (full_of (the_school past code))
school_in_range past code there = go (the_school past code) (some_told (λ f. school_in code f.what) past (omega (arith, there)))
  where
    go : (o : Option SchoolFacts) → is_some o ≡ true → IsBetween 2 3 (terms_of o) × IsBetween 1 40 (full_of o)
    go (Some s) h = (s.in_range.1, s.in_range.2)
    go None h = cc

-- a multiple of five nearest to less than 100,000 is at most that
award_below : (most : ℤ) (n : ℕ) → most ≤ℤ pos 99999 → pos n ≤ℤ int_max most (to5 most) → n ≤ 100000
award_below (pos m) n h k = let q = half_up-le m 5 20000 (omega arith) (omega (arith, ints)) in omega (arith, ints, clamps)
award_below (negsuc m) n h k = omega (arith, ints, clamps)

-- a Scheduled Award is at most 100,000 dollars
award_in_range : (b : Book) (a : Application) → scheduled_of b a ≤ 100000
unfolding scheduled_of
award_in_range b a = elim (decision_under-award (formula b a) b a (index_of b a)) [
  | inl none ↦ omega arith
  | inr within ↦ award_below b.pell.maximum (decision_of b a).scheduled b.pell.maximum_in_range.1 within.1
]

pub scheduled_in_range : (past : List Filing) (student year : ℕ) → scheduled past student year ≤ 100000
scheduled_in_range past student year = go (the_book past year) (application past student year)
  where
    go : (b : Option Book) (a : Option Application) → award_under b a ≤ 100000
    go None a = zero-le
    go (Some b) None = zero-le
    go (Some b) (Some a) = award_in_range b a

-- the sums of a legal history
pub net_in_range : (past : List Filing) → IsLegal past → (sel : Cell → Bool) → IsSum (net past sel)
net_in_range past legal sel = let p = paid_is_small past sel in let s = legal_is_short past legal in omega arith

pub after_in_range : (past : List Filing) → IsLegal past → (sel : Cell → Bool) → IsSum (paid_after past sel)
after_in_range past legal sel =
    let p = paid_is_small past sel in let a = after_is_paid past sel in let s = legal_is_short past legal in omega arith

pub repaid_in_range : (past : List Filing) → IsLegal past → (sel : Cell → Bool) → IsSum (repaid past sel)
repaid_in_range past legal sel = let p = repaid_is_small past sel in let s = legal_is_short past legal in omega arith

pub sent_in_range : (past : List Filing) → IsLegal past → (sel : Cell → Bool) → IsSum (sent past sel)
sent_in_range past legal sel = let p = sent_is_small past sel in let s = legal_is_short past legal in omega arith

-- what a withdrawal reads
pub aid_in_range : (past : List Filing) → IsLegal past → (school student year term : ℕ) → AreFactsInRange (aid_facts past school student year term)
aid_in_range past legal school student year term = record {
  school = school_in_range past school;
  scheduled = scheduled_in_range past student year;
  credits = credits_in_range past legal school student year term;
  pell_term = net_in_range past legal _;
  pell_year = net_in_range past legal _;
  fseog_year = net_in_range past legal _;
  net_all = net_in_range past legal _;
  after = zero-le;
  after_all = zero-le;
  repaid = zero-le;
  sent = zero-le;
}

-- what a payment reads, and what a quote does
pub payment_in_range : (past : List Filing) → IsLegal past → (school student year term program : ℕ) → AreFactsInRange (payment_facts past school student year term program)
payment_in_range past legal school student year term program = record {
  school = school_in_range past school;
  scheduled = scheduled_in_range past student year;
  credits = credits_in_range past legal school student year term;
  pell_term = net_in_range past legal _;
  pell_year = net_in_range past legal _;
  fseog_year = net_in_range past legal _;
  net_all = net_in_range past legal _;
  after = after_in_range past legal _;
  after_all = after_in_range past legal _;
  repaid = zero-le;
  sent = zero-le;
}

-- facts that hold no sums and no award
bare_in_range : (f : Facts) → ((f.school_at ≡ 0 → ⊥) → IsBetween 2 3 f.terms × IsBetween 1 40 f.full) → f.scheduled ≡ 0 → f.credits ≡ 0 → f.pell_term ≡ 0 → IsSum f.pell_year →
    f.fseog_year ≡ 0 → IsSum f.net_all → f.after ≡ 0 → f.after_all ≡ 0 → IsSum f.repaid → IsSum f.sent → AreFactsInRange f
bare_in_range f school scheduled credits term year fseog all after after_all repaid sent = record {
  school = school;
  scheduled = omega arith;
  credits = omega arith;
  pell_term = omega arith;
  pell_year = year;
  fseog_year = omega arith;
  net_all = all;
  after = omega arith;
  after_all = omega arith;
  repaid = repaid;
  sent = sent;
}

-- what a filing reads
facts_of_kind : (past : List Filing) → IsLegal past → (key : Key) (what : What) → AreFactsInRange (facts_of past key what)
facts_of_kind past legal key (Pay a) = payment_in_range past legal key.school a.student a.year a.term (rank a.program)
facts_of_kind past legal key (Withdraw w) = aid_in_range past legal key.school w.student w.year w.term
facts_of_kind past legal key (Enroll e) = record {
  school = school_in_range past key.school;
  scheduled = scheduled_in_range past e.student e.year;
  credits = zero-le;
  pell_term = net_in_range past legal _;
  pell_year = zero-le;
  fseog_year = zero-le;
  net_all = zero-le;
  after = zero-le;
  after_all = zero-le;
  repaid = zero-le;
  sent = zero-le;
}
facts_of_kind past legal key (Apply a) =
    bare_in_range (facts_of past key (Apply a)) (school_in_range past key.school) refl refl refl (net_in_range past legal _) refl zero-le refl refl zero-le zero-le
facts_of_kind past legal key (Repay a) =
    bare_in_range (facts_of past key (Repay a)) (school_in_range past key.school) refl refl refl zero-le refl zero-le refl refl (repaid_in_range past legal _) zero-le
facts_of_kind past legal key (BookFiled b) = bare_in_range (facts_of past key (BookFiled b)) (school_in_range past key.school) refl refl refl zero-le refl zero-le refl refl zero-le zero-le
facts_of_kind past legal key (School b) = bare_in_range (facts_of past key (School b)) (school_in_range past key.school) refl refl refl zero-le refl zero-le refl refl zero-le zero-le
facts_of_kind past legal key (Calendar b) = bare_in_range (facts_of past key (Calendar b)) (school_in_range past key.school) refl refl refl zero-le refl zero-le refl refl zero-le zero-le
facts_of_kind past legal key (Prior b) = bare_in_range (facts_of past key (Prior b)) (school_in_range past key.school) refl refl refl zero-le refl zero-le refl refl zero-le zero-le
facts_of_kind past legal key (Originate b) = bare_in_range (facts_of past key (Originate b)) (school_in_range past key.school) refl refl refl zero-le refl zero-le refl refl zero-le zero-le
facts_of_kind past legal key (Adjust b) = bare_in_range (facts_of past key (Adjust b)) (school_in_range past key.school) refl refl refl zero-le refl zero-le refl refl zero-le zero-le
facts_of_kind past legal key (Cost b) = bare_in_range (facts_of past key (Cost b)) (school_in_range past key.school) refl refl refl zero-le refl (net_in_range past legal _) refl refl zero-le zero-le
facts_of_kind past legal key (Sent b) = bare_in_range (facts_of past key (Sent b)) (school_in_range past key.school) refl refl refl zero-le refl zero-le refl refl zero-le (sent_in_range past legal _)
facts_of_kind past legal key (Amend b) = bare_in_range (facts_of past key (Amend b)) (school_in_range past key.school) refl refl refl zero-le refl zero-le refl refl zero-le zero-le

pub facts_in_range : (past : List Filing) → IsLegal past → (f : Filing) → AreFactsInRange (facts_of past f.key f.what)
facts_in_range past legal f = facts_of_kind past legal f.key f.what
