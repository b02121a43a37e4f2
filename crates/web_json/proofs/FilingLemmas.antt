-- The numbers of a filing give it back.
use Rattle.std.proofs.Common.{◌≡◌, ℕ, Bool, true, false, List, [], ◌∷◌, refl, ap, arith, Some}
use Rattle.std.specs.Prelude.{flat_map}
use Rattle.std.proofs.lemmas.Int.{ints}
use Rattle.aid_types.specs.Programs.{rank}
use Rattle.aid_types.specs.declared.application.Application.{Application}
use Rattle.aid_types.specs.declared.application.Region.{Region}
use Rattle.aid_types.specs.declared.application.Region.TheVariants.{Contiguous, Alaska, Hawaii}
use Rattle.aid_types.specs.declared.application.Side.{Side}
use Rattle.aid_types.specs.declared.number.Key.{Key}
use Rattle.aid_types.specs.declared.number.Program.{Program}
use Rattle.aid_types.specs.declared.number.Program.TheVariants.{Unsub, Sub, Plus, Pell, Fseog, Teach}
use Rattle.aid_types.proofs.Same.{key_parts, key_whole, side_parts, side_whole}
use Rattle.aid_types.proofs.SameApplication.{application_parts, application_whole}
use Rattle.aid_filings.specs.declared.filing.AmendFacts.{AmendFacts}
use Rattle.aid_filings.specs.declared.filing.Amount.{Amount}
use Rattle.aid_filings.specs.declared.filing.CalendarFacts.{CalendarFacts}
use Rattle.aid_filings.specs.declared.filing.EnrollFacts.{EnrollFacts}
use Rattle.aid_filings.specs.declared.filing.Filing.{Filing}
use Rattle.aid_filings.specs.declared.filing.OriginateFacts.{OriginateFacts}
use Rattle.aid_filings.specs.declared.filing.SchoolFacts.{SchoolFacts}
use Rattle.aid_filings.specs.declared.filing.SentFacts.{SentFacts}
use Rattle.aid_filings.specs.declared.filing.What.{What}
use Rattle.aid_filings.specs.declared.filing.What.TheVariants.{Book, School, Calendar, Prior, Apply, Enroll, Originate, Pay, Withdraw, Repay, Adjust, Cost, Sent, Amend}
use Rattle.aid_filings.specs.declared.filing.WithdrawFacts.{WithdrawFacts}
use Rattle.aid_filings.proofs.SameFiling.{amend_facts_parts, amend_facts_whole, amount_parts, amount_whole, calendar_facts_parts, calendar_facts_whole, enroll_facts_parts, enroll_facts_whole, originate_facts_parts, originate_facts_whole, school_facts_parts, school_facts_whole, sent_facts_parts, sent_facts_whole, withdraw_facts_parts, withdraw_facts_whole}
use Rattle.web_json.specs.Bodies.{has_bodies, said}
use Rattle.format_bytes.specs.Numbers.{amount_numbers, application_numbers, break_days, day_number, facts_of, flag_number, key_numbers, kind_of, region_number, side_numbers}
use Rattle.format_bytes.specs.Parts.{amend_numbers, calendar_numbers, enroll_numbers, originate_numbers, school_numbers, sent_numbers, withdraw_numbers}
use Rattle.web_json.specs.Brought.{brought_stays, capped_stays, amount_stays, signed_stays, cents_stay}
use Rattle.web_json.specs.Filings.{amend_of, application_of, breaks_of, calendar_of, day_of, enroll_of, filing_with, flag_of, key_of, money_of, originate_of, program_at, region_of, school_of, sent_of, side_of, what_of, withdraw_of}

-- ---- numbers of a kind
day_again : (day : ℕ) → day_of (day_number day) ≡ day
day_again day = omega (arith, ints)

flag_again : (b : Bool) → flag_of (flag_number b) ≡ b
flag_again true = refl
flag_again false = refl

region_again : (r : Region) → region_of (region_number r) ≡ r
region_again Contiguous = refl
region_again Alaska = refl
region_again Hawaii = refl

program_again : (p : Program) → program_at (rank p) ≡ p
program_again Unsub = refl
program_again Sub = refl
program_again Plus = refl
program_again Pell = refl
program_again Fseog = refl
program_again Teach = refl

breaks_again : (breaks : List (ℕ × ℕ)) → breaks_of (flat_map break_days breaks) ≡ breaks
breaks_again [] = refl
breaks_again (b ∷ breaks) = let rest = breaks_again breaks in λ i. (day_again b.0 i, day_again b.1 i) ∷ rest i

-- ---- the key, and the facts of each kind
key_again : (x : Key) → key_of (key_numbers x) ≡ x
unfolding key_parts
key_again x = key_whole (key_of (key_numbers x)) x (λ i. (x.school, brought_stays 1 999999999998 x.number x.in_range i))

school_again : (x : SchoolFacts) → school_of (school_numbers x) ≡ x
unfolding school_facts_parts
school_again x = school_facts_whole (school_of (school_numbers x)) x
    (λ i. (brought_stays 1 999998 x.code x.in_range.0 i, (brought_stays 2 1 x.terms x.in_range.1 i, brought_stays 1 39 x.full x.in_range.2 i)))

calendar_again : (x : CalendarFacts) → calendar_of (calendar_numbers x) ≡ x
unfolding calendar_facts_parts
calendar_again x = calendar_facts_whole (calendar_of (calendar_numbers x)) x
    (λ i. (x.year, (brought_stays 1 7 x.term x.in_range i, (flag_again x.extra i, (day_again x.first i, (day_again x.last i, breaks_again x.breaks i))))))

enroll_again : (x : EnrollFacts) → enroll_of (enroll_numbers x) ≡ x
unfolding enroll_facts_parts
enroll_again x = enroll_facts_whole (enroll_of (enroll_numbers x)) x (λ i. (x.student, (x.year, (brought_stays 1 7 x.term x.in_range i, x.credits))))

originate_again : (x : OriginateFacts) → originate_of (originate_numbers x) ≡ x
unfolding originate_facts_parts
originate_again x = originate_facts_whole (originate_of (originate_numbers x)) x (λ i. (x.student, (x.year, capped_stays 999999 x.cost x.in_range i)))

money_again : (x : Amount) → money_of (amount_numbers x) ≡ x
unfolding amount_parts
money_again x = amount_whole (money_of (amount_numbers x)) x
    (λ i. (x.student, (x.year, (brought_stays 1 7 x.term x.in_range.0 i, (program_again x.program i, capped_stays 99999999 x.cents x.in_range.1 i)))))

withdraw_again : (x : WithdrawFacts) → withdraw_of (withdraw_numbers x) ≡ x
unfolding withdraw_facts_parts
withdraw_again x = withdraw_facts_whole (withdraw_of (withdraw_numbers x)) x
    (λ i. (x.student, (x.year, (brought_stays 1 7 x.term x.in_range.0 i, (day_again x.last i, (day_again x.determined i, (capped_stays 99999999 x.charges x.in_range.1 i, cents_stay x.could x.could_in_range i)))))))

sent_again : (x : SentFacts) → sent_of (sent_numbers x) ≡ x
unfolding sent_facts_parts
sent_again x = sent_facts_whole (sent_of (sent_numbers x)) x
    (λ i. (x.student, (x.year, (brought_stays 1 7 x.term x.in_range.0 i, (program_again x.program i, (capped_stays 99999999 x.cents x.in_range.1 i, (day_again x.day i, capped_stays 999999999999 x.reference x.in_range.2 i)))))))

amend_again : (x : AmendFacts) → amend_of (amend_numbers x) ≡ x
unfolding amend_facts_parts
amend_again x = amend_facts_whole (amend_of (amend_numbers x)) x
    (λ i. (key_again x.of i, (brought_stays 1 2 x.change x.in_range.0 i, (brought_stays 1 6 x.reason x.in_range.1 i, capped_stays 999999999999 x.reference x.in_range.2 i))))

side_again : (x : Side) → side_of (side_numbers x) ≡ x
unfolding side_parts
side_again x = side_whole (side_of (side_numbers x)) x
    (λ i. (signed_stays x.agi x.in_range.0 i, (amount_stays x.ira x.in_range.1 i, (amount_stays x.interest x.in_range.2 i, (amount_stays x.ira_untaxed x.in_range.3 i, (amount_stays x.pension x.in_range.4 i, (amount_stays x.foreign x.in_range.5 i, (amount_stays x.grants x.in_range.6 i, (amount_stays x.credits x.in_range.7 i, (amount_stays x.work_study x.in_range.8 i, (signed_stays x.tax x.in_range.9 i, (amount_stays x.earned_first x.in_range.10 i, (amount_stays x.earned_second x.in_range.11 i, (amount_stays x.support x.in_range.12 i, (amount_stays x.cash x.in_range.13 i, (amount_stays x.investments x.in_range.14 i, amount_stays x.business x.in_range.15 i))))))))))))))))

application_again : (x : Application) → application_of (application_numbers x) ≡ x
unfolding application_parts
application_again x = application_whole (application_of (application_numbers x)) x
    (λ i. (x.student, (x.year, (brought_stays 1 98 x.transaction x.in_range.0 i, (brought_stays 1900 199 x.birth_year x.in_range.1 i, (region_again x.region i, (brought_stays 1 29 x.family x.in_range.2 i, (flag_again x.married i, (flag_again x.graduate i, (flag_again x.bachelor i, (flag_again x.veteran i, (flag_again x.dependents i, (flag_again x.orphan i, (flag_again x.ward i, (flag_again x.foster i, (flag_again x.emancipated i, (flag_again x.homeless i, (flag_again x.student_file i, (side_again x.own i, (flag_again x.parents_married i, (flag_again x.parents_file i, (brought_stays 0 120 x.parent_age x.in_range.3 i, side_again x.parents i))))))))))))))))))))))

-- ---- what is filed, and the filing
what_again : (w : What) → has_bodies (kind_of w) ≡ true → what_of (kind_of w) (facts_of w) ≡ Some w
unfolding facts_of
what_again (Book x) is = absurd cc
what_again (School x) is = ap (λ (y : SchoolFacts). Some (School y)) (school_again x)
what_again (Calendar x) is = ap (λ (y : CalendarFacts). Some (Calendar y)) (calendar_again x)
what_again (Prior x) is = refl
what_again (Apply x) is = ap (λ (y : Application). Some (Apply y)) (application_again x)
what_again (Enroll x) is = ap (λ (y : EnrollFacts). Some (Enroll y)) (enroll_again x)
what_again (Originate x) is = ap (λ (y : OriginateFacts). Some (Originate y)) (originate_again x)
what_again (Pay x) is = ap (λ (y : Amount). Some (Pay y)) (money_again x)
what_again (Withdraw x) is = ap (λ (y : WithdrawFacts). Some (Withdraw y)) (withdraw_again x)
what_again (Repay x) is = ap (λ (y : Amount). Some (Repay y)) (money_again x)
what_again (Adjust x) is = ap (λ (y : Amount). Some (Adjust y)) (money_again x)
what_again (Cost x) is = ap (λ (y : OriginateFacts). Some (Cost y)) (originate_again x)
what_again (Sent x) is = ap (λ (y : SentFacts). Some (Sent y)) (sent_again x)
what_again (Amend x) is = ap (λ (y : AmendFacts). Some (Amend y)) (amend_again x)

-- a filing of which there are bodies is that of its kind and its numbers
pub filing_again : (f : Filing) → has_bodies (kind_of f.what) ≡ true → filing_with (said f) ≡ Some f
filing_again f is =
    let what = what_again f.what is in
    let key = key_again f.key in
    rw (what, key) refl
