-- The derived `==` of filings is equality.
use Rattle.std.proofs.Common.{◌≡◌, ℕ, Bool, true, ◌≤◌, List, refl, ap, sym, Decides}
use Rattle.std.specs.Coded.{le_prop}
use Rattle.std.proofs.lemmas.Bool.{true≢false}
use denote.Struct.Props.{props}
use Rattle.aid_types.proofs.Same.{Tells, decides, tells_pair, tells_by, same_with_fact, tells_ℕ, tells_key}
use Rattle.aid_types.proofs.SameApplication.{tells_Bool, tells_application}
use Rattle.aid_types.proofs.SameTerm.{tells_breaks, tells_day, tells_program, tells_by_program}
use Rattle.aid_books.proofs.SameBook.{tells_book}
use Rattle.aid_types.specs.Ranges.{EachIsCents, IsBetween}
use Rattle.aid_types.specs.declared.number.Key.{Key}
use Rattle.aid_types.specs.declared.number.Program.{Program}
use Rattle.aid_filings.specs.declared.filing.SchoolFacts.{SchoolFacts}
use Rattle.aid_filings.specs.declared.filing.CalendarFacts.{CalendarFacts}
use Rattle.aid_filings.specs.declared.filing.PriorFacts.{PriorFacts}
use Rattle.aid_filings.specs.declared.filing.EnrollFacts.{EnrollFacts}
use Rattle.aid_filings.specs.declared.filing.OriginateFacts.{OriginateFacts}
use Rattle.aid_filings.specs.declared.filing.Amount.{Amount}
use Rattle.aid_filings.specs.declared.filing.WithdrawFacts.{WithdrawFacts}
use Rattle.aid_filings.specs.declared.filing.SentFacts.{SentFacts}
use Rattle.aid_filings.specs.declared.filing.AmendFacts.{AmendFacts}
use Rattle.aid_filings.specs.declared.filing.Filing.{Filing}
use Rattle.aid_filings.specs.declared.filing.What.{What}
use Rattle.aid_filings.specs.declared.filing.What.TheVariants.{Book as BookFiled, School, Calendar, Prior, Apply, Enroll, Originate, Pay, Withdraw, Repay, Adjust, Cost, Sent, Amend}
use Rattle.aid_filings.specs.contracts.filing.SchoolFactsPartialEq.TheImpl.{eq-value as school_facts_eq}
use Rattle.aid_filings.specs.contracts.filing.CalendarFactsPartialEq.TheImpl.{eq-value as calendar_facts_eq}
use Rattle.aid_filings.specs.contracts.filing.PriorFactsPartialEq.TheImpl.{eq-value as prior_facts_eq}
use Rattle.aid_filings.specs.contracts.filing.EnrollFactsPartialEq.TheImpl.{eq-value as enroll_facts_eq}
use Rattle.aid_filings.specs.contracts.filing.OriginateFactsPartialEq.TheImpl.{eq-value as originate_facts_eq}
use Rattle.aid_filings.specs.contracts.filing.AmountPartialEq.TheImpl.{eq-value as amount_eq}
use Rattle.aid_filings.specs.contracts.filing.WithdrawFactsPartialEq.TheImpl.{eq-value as withdraw_facts_eq}
use Rattle.aid_filings.specs.contracts.filing.SentFactsPartialEq.TheImpl.{eq-value as sent_facts_eq}
use Rattle.aid_filings.specs.contracts.filing.AmendFactsPartialEq.TheImpl.{eq-value as amend_facts_eq}
use Rattle.aid_filings.specs.contracts.filing.WhatPartialEq.TheImpl.{eq-value as what_eq}
use Rattle.aid_filings.specs.contracts.filing.FilingPartialEq.TheImpl.{eq-value as filing_eq, ghosts as filing_ghosts}

unfoldable pub school_facts_parts : SchoolFacts → ℕ × (ℕ × ℕ)
school_facts_parts s = (s.code, (s.terms, s.full))

pub school_facts_whole : (x y : SchoolFacts) → school_facts_parts x ≡ school_facts_parts y → x ≡ y
unfolding school_facts_parts
school_facts_whole x y e =
    let P : ℕ × (ℕ × ℕ) → Type 0 = λ b. IsBetween 1 999999 b.0 × IsBetween 2 3 b.1.0 × IsBetween 1 40 b.1.1 in
    let make : (b : ℕ × (ℕ × ℕ)) → P b → SchoolFacts = λ b p. record { code = b.0; terms = b.1.0; full = b.1.1; in_range = p } in
    same_with_fact P make (λ b. hlevel (le_prop)) (school_facts_parts x) (school_facts_parts y) x.in_range y.in_range e

pub tells_school_facts : Tells school_facts_eq.it
unfolding school_facts_parts
tells_school_facts = tells_by school_facts_parts school_facts_whole (tells_pair tells_ℕ (tells_pair tells_ℕ tells_ℕ))

unfoldable pub prior_facts_parts : PriorFacts → ℕ × ℕ
prior_facts_parts p = (p.student, p.units)

pub prior_facts_whole : (x y : PriorFacts) → prior_facts_parts x ≡ prior_facts_parts y → x ≡ y
unfolding prior_facts_parts
prior_facts_whole x y e = let make : ℕ × ℕ → PriorFacts = λ b. record { student = b.0; units = b.1 } in ap make e

pub tells_prior_facts : Tells prior_facts_eq.it
unfolding prior_facts_parts
tells_prior_facts = tells_by prior_facts_parts prior_facts_whole (tells_pair tells_ℕ tells_ℕ)

abbrev pub CalendarFactsParts : Type 0
CalendarFactsParts = ℕ × (ℕ × (Bool × (ℕ × (ℕ × (List (ℕ × ℕ))))))

unfoldable pub calendar_facts_parts : CalendarFacts → CalendarFactsParts
calendar_facts_parts x = (x.year, (x.term, (x.extra, (x.first, (x.last, x.breaks)))))

pub calendar_facts_whole : (x y : CalendarFacts) → calendar_facts_parts x ≡ calendar_facts_parts y → x ≡ y
unfolding calendar_facts_parts
calendar_facts_whole x y e =
    let P : CalendarFactsParts → Type 0 = λ b. IsBetween 1 8 b.1.0 in
    let make : (b : CalendarFactsParts) → P b → CalendarFacts = λ b p. record { year = b.0; term = b.1.0; extra = b.1.1.0; first = b.1.1.1.0; last = b.1.1.1.1.0; breaks = b.1.1.1.1.1; in_range = p } in
    same_with_fact P make (λ b. hlevel (le_prop, props)) (calendar_facts_parts x) (calendar_facts_parts y) x.in_range y.in_range e

pub tells_calendar_facts : Tells calendar_facts_eq.it
unfolding calendar_facts_parts
tells_calendar_facts = tells_by calendar_facts_parts calendar_facts_whole (tells_pair tells_ℕ (tells_pair tells_ℕ (tells_pair tells_Bool (tells_pair tells_day (tells_pair tells_day tells_breaks)))))

abbrev pub EnrollFactsParts : Type 0
EnrollFactsParts = ℕ × (ℕ × (ℕ × (ℕ)))

unfoldable pub enroll_facts_parts : EnrollFacts → EnrollFactsParts
enroll_facts_parts x = (x.student, (x.year, (x.term, x.credits)))

pub enroll_facts_whole : (x y : EnrollFacts) → enroll_facts_parts x ≡ enroll_facts_parts y → x ≡ y
unfolding enroll_facts_parts
enroll_facts_whole x y e =
    let P : EnrollFactsParts → Type 0 = λ b. IsBetween 1 8 b.1.1.0 in
    let make : (b : EnrollFactsParts) → P b → EnrollFacts = λ b p. record { student = b.0; year = b.1.0; term = b.1.1.0; credits = b.1.1.1; in_range = p } in
    same_with_fact P make (λ b. hlevel (le_prop, props)) (enroll_facts_parts x) (enroll_facts_parts y) x.in_range y.in_range e

pub tells_enroll_facts : Tells enroll_facts_eq.it
unfolding enroll_facts_parts
tells_enroll_facts = tells_by enroll_facts_parts enroll_facts_whole (tells_pair tells_ℕ (tells_pair tells_ℕ (tells_pair tells_ℕ tells_ℕ)))

abbrev pub OriginateFactsParts : Type 0
OriginateFactsParts = ℕ × (ℕ × (ℕ))

unfoldable pub originate_facts_parts : OriginateFacts → OriginateFactsParts
originate_facts_parts x = (x.student, (x.year, x.cost))

pub originate_facts_whole : (x y : OriginateFacts) → originate_facts_parts x ≡ originate_facts_parts y → x ≡ y
unfolding originate_facts_parts
originate_facts_whole x y e =
    let P : OriginateFactsParts → Type 0 = λ b. b.1.1 ≤ 999999 in
    let make : (b : OriginateFactsParts) → P b → OriginateFacts = λ b p. record { student = b.0; year = b.1.0; cost = b.1.1; in_range = p } in
    same_with_fact P make (λ b. hlevel (le_prop, props)) (originate_facts_parts x) (originate_facts_parts y) x.in_range y.in_range e

pub tells_originate_facts : Tells originate_facts_eq.it
unfolding originate_facts_parts
tells_originate_facts = tells_by originate_facts_parts originate_facts_whole (tells_pair tells_ℕ (tells_pair tells_ℕ tells_ℕ))

abbrev pub AmountParts : Type 0
AmountParts = ℕ × (ℕ × (ℕ × (Program × (ℕ))))

unfoldable pub amount_parts : Amount → AmountParts
amount_parts x = (x.student, (x.year, (x.term, (x.program, x.cents))))

pub amount_whole : (x y : Amount) → amount_parts x ≡ amount_parts y → x ≡ y
unfolding amount_parts
amount_whole x y e =
    let P : AmountParts → Type 0 = λ b. IsBetween 1 8 b.1.1.0 × (b.1.1.1.1 ≤ 99999999) in
    let make : (b : AmountParts) → P b → Amount = λ b p. record { student = b.0; year = b.1.0; term = b.1.1.0; program = b.1.1.1.0; cents = b.1.1.1.1; in_range = p } in
    same_with_fact P make (λ b. hlevel (le_prop, props)) (amount_parts x) (amount_parts y) x.in_range y.in_range e

pub tells_amount : Tells amount_eq.it
unfolding amount_parts
tells_amount = tells_by amount_parts amount_whole (tells_pair tells_ℕ (tells_pair tells_ℕ (tells_pair tells_ℕ (tells_pair tells_program tells_ℕ))))

abbrev pub WithdrawFactsParts : Type 0
WithdrawFactsParts = ℕ × (ℕ × (ℕ × (ℕ × (ℕ × (ℕ × (List ℕ))))))

unfoldable pub withdraw_facts_parts : WithdrawFacts → WithdrawFactsParts
withdraw_facts_parts x = (x.student, (x.year, (x.term, (x.last, (x.determined, (x.charges, x.could))))))

pub withdraw_facts_whole : (x y : WithdrawFacts) → withdraw_facts_parts x ≡ withdraw_facts_parts y → x ≡ y
unfolding withdraw_facts_parts
withdraw_facts_whole x y e =
    let P : WithdrawFactsParts → Type 0 = λ b. (IsBetween 1 8 b.1.1.0 × (b.1.1.1.1.1.0 ≤ 99999999)) × EachIsCents b.1.1.1.1.1.1 in
    let make : (b : WithdrawFactsParts) → P b → WithdrawFacts = λ b p. record { student = b.0; year = b.1.0; term = b.1.1.0; last = b.1.1.1.0; determined = b.1.1.1.1.0; charges = b.1.1.1.1.1.0; could = b.1.1.1.1.1.1; in_range = p.0; could_in_range = p.1 } in
    same_with_fact P make (λ b. hlevel (le_prop, props)) (withdraw_facts_parts x) (withdraw_facts_parts y) (x.in_range, x.could_in_range) (y.in_range, y.could_in_range) e

pub tells_withdraw_facts : Tells withdraw_facts_eq.it
unfolding withdraw_facts_parts
tells_withdraw_facts = tells_by withdraw_facts_parts withdraw_facts_whole (tells_pair tells_ℕ (tells_pair tells_ℕ (tells_pair tells_ℕ (tells_pair tells_day (tells_pair tells_day (tells_pair tells_ℕ tells_by_program))))))

abbrev pub SentFactsParts : Type 0
SentFactsParts = ℕ × (ℕ × (ℕ × (Program × (ℕ × (ℕ × ℕ)))))

unfoldable pub sent_facts_parts : SentFacts → SentFactsParts
sent_facts_parts x = (x.student, (x.year, (x.term, (x.program, (x.cents, (x.day, x.reference))))))

pub sent_facts_whole : (x y : SentFacts) → sent_facts_parts x ≡ sent_facts_parts y → x ≡ y
unfolding sent_facts_parts
sent_facts_whole x y e =
    let P : SentFactsParts → Type 0 = λ b. IsBetween 1 8 b.1.1.0 × (b.1.1.1.1.0 ≤ 99999999) × (b.1.1.1.1.1.1 ≤ 999999999999) in
    let make : (b : SentFactsParts) → P b → SentFacts = λ b p. record { student = b.0; year = b.1.0; term = b.1.1.0; program = b.1.1.1.0; cents = b.1.1.1.1.0; day = b.1.1.1.1.1.0; reference = b.1.1.1.1.1.1; in_range = p } in
    same_with_fact P make (λ b. hlevel (le_prop, props)) (sent_facts_parts x) (sent_facts_parts y) x.in_range y.in_range e

pub tells_sent_facts : Tells sent_facts_eq.it
unfolding sent_facts_parts
tells_sent_facts = tells_by sent_facts_parts sent_facts_whole (tells_pair tells_ℕ (tells_pair tells_ℕ (tells_pair tells_ℕ (tells_pair tells_program (tells_pair tells_ℕ (tells_pair tells_day tells_ℕ))))))

abbrev pub AmendFactsParts : Type 0
AmendFactsParts = Key × (ℕ × (ℕ × ℕ))

unfoldable pub amend_facts_parts : AmendFacts → AmendFactsParts
amend_facts_parts x = (x.of, (x.change, (x.reason, x.reference)))

pub amend_facts_whole : (x y : AmendFacts) → amend_facts_parts x ≡ amend_facts_parts y → x ≡ y
unfolding amend_facts_parts
amend_facts_whole x y e =
    let P : AmendFactsParts → Type 0 = λ b. IsBetween 1 3 b.1.0 × IsBetween 1 7 b.1.1.0 × (b.1.1.1 ≤ 999999999999) in
    let make : (b : AmendFactsParts) → P b → AmendFacts = λ b p. record { of = b.0; change = b.1.0; reason = b.1.1.0; reference = b.1.1.1; in_range = p } in
    same_with_fact P make (λ b. hlevel (le_prop, props)) (amend_facts_parts x) (amend_facts_parts y) x.in_range y.in_range e

pub tells_amend_facts : Tells amend_facts_eq.it
unfolding amend_facts_parts
tells_amend_facts = tells_by amend_facts_parts amend_facts_whole (tells_pair tells_key (tells_pair tells_ℕ (tells_pair tells_ℕ tells_ℕ)))

pub tells_what : Tells what_eq.it
tells_what = record { same = same; told = told } where
  same : (x y : What) → what_eq.it x y ≡ true → x ≡ y
  same (BookFiled x) (BookFiled y) h = ap BookFiled (tells_book.same x y h)
  same (School x) (School y) h = ap School (tells_school_facts.same x y h)
  same (Calendar x) (Calendar y) h = ap Calendar (tells_calendar_facts.same x y h)
  same (Prior x) (Prior y) h = ap Prior (tells_prior_facts.same x y h)
  same (Apply x) (Apply y) h = ap Apply (tells_application.same x y h)
  same (Enroll x) (Enroll y) h = ap Enroll (tells_enroll_facts.same x y h)
  same (Originate x) (Originate y) h = ap Originate (tells_originate_facts.same x y h)
  same (Pay x) (Pay y) h = ap Pay (tells_amount.same x y h)
  same (Withdraw x) (Withdraw y) h = ap Withdraw (tells_withdraw_facts.same x y h)
  same (Repay x) (Repay y) h = ap Repay (tells_amount.same x y h)
  same (Adjust x) (Adjust y) h = ap Adjust (tells_amount.same x y h)
  same (Cost x) (Cost y) h = ap Cost (tells_originate_facts.same x y h)
  same (Sent x) (Sent y) h = ap Sent (tells_sent_facts.same x y h)
  same (Amend x) (Amend y) h = ap Amend (tells_amend_facts.same x y h)
  same _ _ h = absurd (true≢false (sym h))

  told : (x : What) → what_eq.it x x ≡ true
  told (BookFiled x) = tells_book.told x
  told (School x) = tells_school_facts.told x
  told (Calendar x) = tells_calendar_facts.told x
  told (Prior x) = tells_prior_facts.told x
  told (Apply x) = tells_application.told x
  told (Enroll x) = tells_enroll_facts.told x
  told (Originate x) = tells_originate_facts.told x
  told (Pay x) = tells_amount.told x
  told (Withdraw x) = tells_withdraw_facts.told x
  told (Repay x) = tells_amount.told x
  told (Adjust x) = tells_amount.told x
  told (Cost x) = tells_originate_facts.told x
  told (Sent x) = tells_sent_facts.told x
  told (Amend x) = tells_amend_facts.told x

unfoldable pub filing_parts : Filing → Key × What
filing_parts f = (f.key, f.what)

pub filing_whole : (x y : Filing) → filing_parts x ≡ filing_parts y → x ≡ y
unfolding filing_parts
filing_whole x y e = let make : Key × What → Filing = λ b. record { key = b.0; what = b.1 } in ap make e

pub tells_filing : Tells filing_eq.it
unfolding filing_parts
tells_filing = tells_by filing_parts filing_whole (tells_pair tells_key tells_what)

-- what a derive above compares by
pub filing_eq-Decides : (a b : Filing) → Decides (filing_ghosts.eq a b) (a ≡ b)
filing_eq-Decides a b = decides tells_filing a b (filing_ghosts.eq a b) refl
