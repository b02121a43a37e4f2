-- A filing is told by its kind and its numbers.
use Rattle.std.proofs.Common.{◌≡◌, ℕ, ◌==◌, ℤ, pos, Bool, true, false, List, [], ◌∷◌, take, drop, refl, sym, ap, subst, ◌∙◌, arith}
use Rattle.std.specs.Prelude.{flat_map, if◌then◌else◌, map, slice_index_or, unsigned_abs}
use Rattle.std.proofs.lemmas.Int.{ints}
use Rattle.aid_types.specs.Programs.{rank}
use Rattle.aid_types.specs.declared.application.Application.{Application}
use Rattle.aid_types.specs.declared.application.Region.{Region}
use Rattle.aid_types.specs.declared.application.Region.TheVariants.{Contiguous, Alaska, Hawaii}
use Rattle.aid_types.specs.declared.application.Side.{Side}
use Rattle.aid_types.specs.declared.number.Key.{Key}
use Rattle.aid_types.specs.declared.number.Program.{Program}
use Rattle.aid_types.specs.declared.number.Program.TheVariants.{Unsub, Sub, Plus, Pell, Fseog, Teach}
use Rattle.aid_types.proofs.Same.{key_parts, key_whole, side_parts, side_whole}
use Rattle.aid_types.proofs.SameApplication.{application_parts, application_whole}
use Rattle.aid_filings.specs.declared.filing.AmendFacts.{AmendFacts}
use Rattle.aid_filings.specs.declared.filing.Amount.{Amount}
use Rattle.aid_filings.specs.declared.filing.CalendarFacts.{CalendarFacts}
use Rattle.aid_filings.specs.declared.filing.EnrollFacts.{EnrollFacts}
use Rattle.aid_filings.specs.declared.filing.Filing.{Filing}
use Rattle.aid_filings.specs.declared.filing.OriginateFacts.{OriginateFacts}
use Rattle.aid_filings.specs.declared.filing.PriorFacts.{PriorFacts}
use Rattle.aid_filings.specs.declared.filing.SchoolFacts.{SchoolFacts}
use Rattle.aid_filings.specs.declared.filing.SentFacts.{SentFacts}
use Rattle.aid_filings.specs.declared.filing.What.{What}
use Rattle.aid_filings.specs.declared.filing.What.TheVariants.{Book, School, Calendar, Prior, Apply, Enroll, Originate, Pay, Withdraw, Repay, Adjust, Cost, Sent, Amend}
use Rattle.aid_filings.specs.declared.filing.WithdrawFacts.{WithdrawFacts}
use Rattle.aid_filings.proofs.SameFiling.{amend_facts_parts, amend_facts_whole, amount_parts, amount_whole, calendar_facts_parts, calendar_facts_whole, enroll_facts_parts, enroll_facts_whole, originate_facts_parts, originate_facts_whole, prior_facts_parts, prior_facts_whole, school_facts_parts, school_facts_whole, sent_facts_parts, sent_facts_whole, withdraw_facts_parts, withdraw_facts_whole}
use Rattle.format_kinds.proofs.Equal.{same_book}
use Rattle.format_kinds.specs.Kinds.{table_row_of}
use Rattle.format_bytes.specs.Parts.{FitAnywhere, amend_numbers, calendar_numbers, could_numbers, enroll_numbers, originate_numbers, prior_numbers, school_numbers, sent_numbers, withdraw_numbers}
use Rattle.format_bytes.specs.Numbers.{amount_numbers, application_numbers, break_days, day_number, facts_of, flag_number, key_numbers, kind_of, numbers_of, region_number, side_numbers}

-- ---- the numbers of equal lists, and what they are of
at : {xs ys : List ℤ} → xs ≡ ys → (k : ℕ) → slice_index_or xs k (pos 0) ≡ slice_index_or ys k (pos 0)
at e k = ap (λ (zs : List ℤ). slice_index_or zs k (pos 0)) e

natural_at : {xs ys : List ℤ} → xs ≡ ys → (k : ℕ) → unsigned_abs (slice_index_or xs k (pos 0)) ≡ unsigned_abs (slice_index_or ys k (pos 0))
natural_at e k = ap unsigned_abs (at e k)

same_day : (x y : ℕ) → day_number x ≡ day_number y → x ≡ y
same_day x y e = omega (arith, ints, e)

flag_of : ℤ → Bool
flag_of z = unsigned_abs z == 1

flag_again : (b : Bool) → flag_of (flag_number b) ≡ b
unfolding flag_of
flag_again true = refl
flag_again false = refl

same_flag : (b c : Bool) → flag_number b ≡ flag_number c → b ≡ c
same_flag b c e = sym (flag_again b) ∙ ap flag_of e ∙ flag_again c

region_of : ℤ → Region
region_of z = if unsigned_abs z == 0 then Contiguous else (if unsigned_abs z == 1 then Alaska else Hawaii)

region_again : (r : Region) → region_of (region_number r) ≡ r
unfolding region_of
region_again Contiguous = refl
region_again Alaska = refl
region_again Hawaii = refl

same_region : (r s : Region) → region_number r ≡ region_number s → r ≡ s
same_region r s e = sym (region_again r) ∙ ap region_of e ∙ region_again s

program_of : ℤ → Program
program_of z =
    let n = unsigned_abs z in
    if n == 0 then Unsub else (if n == 1 then Sub else (if n == 2 then Plus else (if n == 3 then Pell else (if n == 4 then Fseog else Teach))))

program_again : (p : Program) → program_of (pos (rank p)) ≡ p
unfolding program_of
program_again Unsub = refl
program_again Sub = refl
program_again Plus = refl
program_again Pell = refl
program_again Fseog = refl
program_again Teach = refl

same_program : (p q : Program) → pos (rank p) ≡ pos (rank q) → p ≡ q
same_program p q e = sym (program_again p) ∙ ap program_of e ∙ program_again q

could_again : (could : List ℕ) → map unsigned_abs (could_numbers could) ≡ could
could_again [] = refl
could_again (c ∷ could) = ap (λ (cs : List ℕ). c ∷ cs) (could_again could)

same_could : (c d : List ℕ) → could_numbers c ≡ could_numbers d → c ≡ d
same_could c d e = sym (could_again c) ∙ ap (map unsigned_abs) e ∙ could_again d

same_breaks : (bs cs : List (ℕ × ℕ)) → flat_map break_days bs ≡ flat_map break_days cs → bs ≡ cs
same_breaks [] [] e = refl
same_breaks [] (c ∷ cs) e = absurd cc
same_breaks (b ∷ bs) [] e = absurd cc
same_breaks (b ∷ bs) (c ∷ cs) e =
    let rest = same_breaks bs cs (ap (drop 2) e) in
    λ i. (same_day b.0 c.0 (at e 0) i, same_day b.1 c.1 (at e 1) i) ∷ rest i

-- ---- the facts of each kind
same_key : (x y : Key) → key_numbers x ≡ key_numbers y → x ≡ y
unfolding key_parts
same_key x y e = key_whole x y (λ i. (natural_at e 0 i, natural_at e 1 i))

same_school : (x y : SchoolFacts) → school_numbers x ≡ school_numbers y → x ≡ y
unfolding school_facts_parts
same_school x y e = school_facts_whole x y (λ i. (natural_at e 0 i, (natural_at e 1 i, natural_at e 2 i)))

same_calendar : (x y : CalendarFacts) → calendar_numbers x ≡ calendar_numbers y → x ≡ y
unfolding calendar_facts_parts
same_calendar x y e =
    let breaks = same_breaks x.breaks y.breaks (ap (drop 6) e) in
    calendar_facts_whole x y
    (λ i. (natural_at e 0 i, (natural_at e 1 i, (same_flag x.extra y.extra (at e 2) i, (same_day x.first y.first (at e 3) i, (same_day x.last y.last (at e 4) i, breaks i))))))

same_prior : (x y : PriorFacts) → prior_numbers x ≡ prior_numbers y → x ≡ y
unfolding prior_facts_parts
same_prior x y e = prior_facts_whole x y (λ i. (natural_at e 0 i, natural_at e 1 i))

same_enroll : (x y : EnrollFacts) → enroll_numbers x ≡ enroll_numbers y → x ≡ y
unfolding enroll_facts_parts
same_enroll x y e = enroll_facts_whole x y (λ i. (natural_at e 0 i, (natural_at e 1 i, (natural_at e 2 i, natural_at e 3 i))))

same_originate : (x y : OriginateFacts) → originate_numbers x ≡ originate_numbers y → x ≡ y
unfolding originate_facts_parts
same_originate x y e = originate_facts_whole x y (λ i. (natural_at e 0 i, (natural_at e 1 i, natural_at e 2 i)))

same_amount : (x y : Amount) → amount_numbers x ≡ amount_numbers y → x ≡ y
unfolding amount_parts
same_amount x y e =
    amount_whole x y (λ i. (natural_at e 0 i, (natural_at e 1 i, (natural_at e 2 i, (same_program x.program y.program (at e 3) i, natural_at e 4 i)))))

same_sent : (x y : SentFacts) → sent_numbers x ≡ sent_numbers y → x ≡ y
unfolding sent_facts_parts
same_sent x y e = sent_facts_whole x y
    (λ i. (natural_at e 0 i, (natural_at e 1 i, (natural_at e 2 i, (same_program x.program y.program (at e 3) i, (natural_at e 4 i, (same_day x.day y.day (at e 5) i, natural_at e 6 i)))))))

same_amend : (x y : AmendFacts) → amend_numbers x ≡ amend_numbers y → x ≡ y
unfolding amend_facts_parts
same_amend x y e =
    let of = same_key x.of y.of (ap (take 2) e) in
    amend_facts_whole x y (λ i. (of i, (natural_at e 2 i, (natural_at e 3 i, natural_at e 4 i))))

same_withdraw : (x y : WithdrawFacts) → withdraw_numbers x ≡ withdraw_numbers y → x ≡ y
unfolding withdraw_facts_parts
same_withdraw x y e =
    let could = same_could x.could y.could (ap (drop 6) e) in
    withdraw_facts_whole x y
    (λ i. (natural_at e 0 i, (natural_at e 1 i, (natural_at e 2 i, (same_day x.last y.last (at e 3) i, (same_day x.determined y.determined (at e 4) i, (natural_at e 5 i, could i)))))))

same_side : (x y : Side) → side_numbers x ≡ side_numbers y → x ≡ y
unfolding side_parts
same_side x y e = side_whole x y
    (λ i. (at e 0 i, (at e 1 i, (at e 2 i, (at e 3 i, (at e 4 i, (at e 5 i, (at e 6 i, (at e 7 i, (at e 8 i, (at e 9 i, (at e 10 i, (at e 11 i, (at e 12 i, (at e 13 i, (at e 14 i, at e 15 i))))))))))))))))

same_application : (x y : Application) → application_numbers x ≡ application_numbers y → x ≡ y
unfolding application_parts
same_application x y e =
    let flag : (b c : Bool) → flag_number b ≡ flag_number c → b ≡ c = same_flag in
    let own = same_side x.own y.own (ap (λ (zs : List ℤ). take 16 (drop 17 zs)) e) in
    let parents = same_side x.parents y.parents (ap (drop 36) e) in
    application_whole x y
    (λ i. (
      natural_at e 0 i,
      (
        natural_at e 1 i,
        (
          natural_at e 2 i,
          (
            natural_at e 3 i,
            (
              same_region x.region y.region (at e 4) i,
              (
                natural_at e 5 i,
                (
                  flag x.married y.married (at e 6) i,
                  (
                    flag x.graduate y.graduate (at e 7) i,
                    (
                      flag x.bachelor y.bachelor (at e 8) i,
                      (
                        flag x.veteran y.veteran (at e 9) i,
                        (
                          flag x.dependents y.dependents (at e 10) i,
                          (
                            flag x.orphan y.orphan (at e 11) i,
                            (
                              flag x.ward y.ward (at e 12) i,
                              (
                                flag x.foster y.foster (at e 13) i,
                                (
                                  flag x.emancipated y.emancipated (at e 14) i,
                                  (
                                    flag x.homeless y.homeless (at e 15) i,
                                    (
                                      flag x.student_file y.student_file (at e 16) i,
                                      (
                                        own i,
                                        (
                                          flag x.parents_married y.parents_married (at e 33) i,
                                          (flag x.parents_file y.parents_file (at e 34) i, (natural_at e 35 i, parents i)),
                                        ),
                                      ),
                                    ),
                                  ),
                                ),
                              ),
                            ),
                          ),
                        ),
                      ),
                    ),
                  ),
                ),
              ),
            ),
          ),
        ),
      ),
    ))

-- ---- what is filed, and the filing
same_what : (x y : What) → kind_of x ≡ kind_of y → facts_of x ≡ facts_of y → x ≡ y
unfolding facts_of
same_what (Book x) (Book y) k e = ap Book (same_book x y e)
same_what (School x) (School y) k e = ap School (same_school x y e)
same_what (Calendar x) (Calendar y) k e = ap Calendar (same_calendar x y e)
same_what (Prior x) (Prior y) k e = ap Prior (same_prior x y e)
same_what (Apply x) (Apply y) k e = ap Apply (same_application x y e)
same_what (Enroll x) (Enroll y) k e = ap Enroll (same_enroll x y e)
same_what (Originate x) (Originate y) k e = ap Originate (same_originate x y e)
same_what (Pay x) (Pay y) k e = ap Pay (same_amount x y e)
same_what (Withdraw x) (Withdraw y) k e = ap Withdraw (same_withdraw x y e)
same_what (Repay x) (Repay y) k e = ap Repay (same_amount x y e)
same_what (Adjust x) (Adjust y) k e = ap Adjust (same_amount x y e)
same_what (Cost x) (Cost y) k e = ap Cost (same_originate x y e)
same_what (Sent x) (Sent y) k e = ap Sent (same_sent x y e)
same_what (Amend x) (Amend y) k e = ap Amend (same_amend x y e)
same_what _ _ k e = absurd cc

-- two filings of a kind are equal where their numbers are
pub same_filing : (x y : Filing) → kind_of x.what ≡ kind_of y.what → numbers_of x ≡ numbers_of y → x ≡ y
same_filing x y k e =
    let key : x.key ≡ y.key = same_key x.key y.key (ap (take 2) e) in
    let what : x.what ≡ y.what = same_what x.what y.what k (ap (drop 2) e) in
    λ i. record { key = key i; what = what i }

-- numbers of equal facts
pub facts_fit : (x y : What) → x ≡ y → FitAnywhere (table_row_of (kind_of y)).slots (facts_of y) → FitAnywhere (table_row_of (kind_of x)).slots (facts_of x)
facts_fit x y e h = subst (λ (z : What). FitAnywhere (table_row_of (kind_of z)).slots (facts_of z)) (sym e) h
