-- What a filing changes of the lifetime use of students.
use Rattle.std.proofs.Common.{◌≡◌, ◌≢◌, ℕ, zero, suc, ◌+◌, ◌-◌, ◌≤◌, ◌<◌, Bool, true, false, ◌&&◌, cond, refl, sym, ap, subst, ◌∙◌, arith, [], ◌∷◌, List, length, Option, Some, None, eq-eqb, eqb-true, ne_eqb, ◌⊎◌, inl, inr}
use Rattle.std.specs.Prelude.{◌==◌, is_some}
use Rattle.std.specs.List.{range_with_len}
use Rattle.aid_types.specs.Programs.{rank}
use Rattle.aid_types.specs.Ranges.{IsBetween}
use Rattle.aid_types.specs.declared.number.Key.{Key}
use Rattle.aid_filings.specs.declared.filing.Amount.{Amount}
use Rattle.aid_filings.specs.declared.filing.Filing.{Filing}
use Rattle.aid_filings.specs.declared.filing.PriorFacts.{PriorFacts}
use Rattle.aid_filings.specs.declared.filing.What.{What}
use Rattle.aid_filings.specs.declared.filing.What.TheVariants.{Book as BookFiled, School, Calendar, Prior, Apply, Enroll, Originate, Pay, Withdraw, Repay, Adjust, Cost, Sent, Amend}
use Rattle.office_history.specs.Answer.{IsLegal, breaks}
use Rattle.office_history.specs.Rules.{rules_of}
use Rattle.office_history.specs.Positions.{pell_at, prior_at}
use Rattle.office_history.specs.Net.{all_years, sum_over, use_in, used}
use Rattle.office_history.specs.Past.{amount_or, earliest, earlier, first_of_two, given, prior_in, prior_units}
use Rattle.office_history.proofs.Asked.{none_told}
use Rattle.office_history.proofs.Awards.{year_holds}
use Rattle.aid_types.proofs.Holds.{all_hold, over_holds, stands_holds}
use Rattle.office_history.proofs.Lifetime.{but, lifetime_holds}
use Rattle.office_history.specs.Rows.{student_row, year_row}
use Rattle.office_history.specs.declared.rows.StudentRow.{StudentRow}
use Rattle.office_history.specs.declared.rows.YearRow.{YearRow}
use Rattle.office_updates.specs.After.{IsStudentAfter}
use Rattle.office_updates.specs.Moved.{ChangesYear, IsWithinYear, student_moved, student_paid, student_prior, use_of_year}
use Rattle.office_updates.proofs.YearFilings.{changes_none, of_kind, year_unchanged}
use Rattle.office_updates.proofs.YearNames.{student_written}

-- ---- sums over years, of which one changes
sum_same : (g g' : ℕ → ℕ) (ys : List ℕ) → ((y : ℕ) → g' y ≡ g y) → sum_over g' ys ≡ sum_over g ys
sum_same g g' [] same = refl
sum_same g g' (y ∷ ys) same = let k = same y in let r = sum_same g g' ys same in omega arith

-- past the year the sum without it is the whole one
sum_past : (g g' : ℕ → ℕ) (year a n : ℕ) → year < a → ((y : ℕ) → y ≢ year → g' y ≡ g y) →
    sum_over g' (range_with_len a n) ≡ sum_over (but year g) (range_with_len a n)
sum_past g g' year a zero h same = refl
sum_past g g' year a (suc n) h same =
    let r = sum_past g g' year (a + 1) n (omega arith) same in
    let k = same a (λ e. omega arith) in
    let b : but year g a ≡ g a = rw (ne_eqb a year (λ e. omega arith)) refl in
    omega arith

sum_of_others : (g g' : ℕ → ℕ) (year a n : ℕ) → a ≤ year → year < a + n → ((y : ℕ) → y ≢ year → g' y ≡ g y) →
    sum_over g' (range_with_len a n) ≡ sum_over (but year g) (range_with_len a n) + g' year
sum_of_others g g' year a zero low high same = absurd (omega arith)
sum_of_others g g' year a (suc n) low high same = go (sum_of_others g g' year (a + 1) n) (a == year) refl
  where
    go : (a + 1 ≤ year → year < a + 1 + n → ((y : ℕ) → y ≢ year → g' y ≡ g y) →
        sum_over g' (range_with_len (a + 1) n) ≡ sum_over (but year g) (range_with_len (a + 1) n) + g' year) →
        (b : Bool) → (a == year) ≡ b →
        g' a + sum_over g' (range_with_len (a + 1) n) ≡ cond b 0 (g a) + sum_over (but year g) (range_with_len (a + 1) n) + g' year
    go r false e =
        let differ : a ≢ year = λ q. let t : (a == year) ≡ true = eq-eqb a year q in let bad : ⊥ = cc in bad in
        let k = same a differ in
        let rest = r (omega arith) (omega arith) same in
        omega arith
    go r true e =
        let q : a ≡ year = eqb-true a year e in
        let k = sum_past g g' year (a + 1) n (omega arith) same in
        let s : g' a ≡ g' year = ap g' q in
        omega arith

all_but_one : (g g' : ℕ → ℕ) (year : ℕ) → IsBetween 2000 2099 year → ((y : ℕ) → y ≢ year → g' y ≡ g y) → sum_over g' all_years ≡ sum_over (but year g) all_years + g' year
unfolding all_years
all_but_one g g' year between same = sum_of_others g g' year 2000 100 between.0 (omega arith) same

-- ---- lifetime use
-- a year's use is part of the lifetime's
pub use_within : (past : List Filing) (student year : ℕ) (row : YearRow) (units : ℕ) → IsBetween 2000 2099 year → row ≡ year_row past student year →
    units ≡ use_of_year row → units ≤ used past student
use_within past student year row units between is at =
    let k = all_but_one (use_in past student) (use_in past student) year between (λ y differ. refl) in
    let same : use_of_year row ≡ use_in past student year = ap use_of_year is in
    omega arith

pub used_most : (past : List Filing) (student : ℕ) → IsLegal past → used past student ≤ 600000
used_most past student legal = lifetime_holds past legal student

-- no more is paid of a year than one and a half of its award
pub year_within : (past : List Filing) (student year : ℕ) (row : YearRow) → row ≡ year_row past student year → IsLegal past → IsWithinYear row
year_within past student year row is legal =
    subst IsWithinYear (sym is) (year_holds past legal student year)

used_stays : (past : List Filing) (f : Filing) (student : ℕ) → prior_units (f ∷ past) student ≡ prior_units past student →
    ((y : ℕ) → year_row (f ∷ past) student y ≡ year_row past student y) → used (f ∷ past) student ≡ used past student
used_stays past f student units same =
    let k = sum_same (use_in past student) (use_in (f ∷ past) student) all_years (λ y. ap use_of_year (same y)) in
    omega arith

used_moved : (past : List Filing) (f : Filing) (student year : ℕ) → IsBetween 2000 2099 year → prior_units (f ∷ past) student ≡ prior_units past student →
    ChangesYear past f student year →
    used (f ∷ past) student ≡ (used past student - use_of_year (year_row past student year)) + use_of_year (year_row (f ∷ past) student year)
used_moved past f student year between units changes =
    let others = λ (y : ℕ) (differ : y ≢ year).
    let off : (student == student && year == y) ≡ false = rw (eq-eqb student student refl, ne_eqb year y (λ e. differ (sym e))) refl in
    let same : use_in (f ∷ past) student y ≡ use_in past student y = ap use_of_year (changes student y off) in
    same in
    let new = all_but_one (use_in past student) (use_in (f ∷ past) student) year between others in
    let old = all_but_one (use_in past student) (use_in past student) year between (λ y differ. refl) in
    omega arith

-- ---- a filing that changes one year of one student
pub record Brings (past : List Filing) (f : Filing) (student year : ℕ) (is_pell : Bool) : Type 0 where
  pub changes : ChangesYear past f student year
  pub prior : (s : ℕ) → prior_at (f ∷ past) s ≡ prior_at past s
  pub units : (s : ℕ) → prior_units (f ∷ past) s ≡ prior_units past s
  pub pell : (s : ℕ) → pell_at (f ∷ past) s ≡ first_of_two (student == s && is_pell) (pell_at past s) (length past + 1)

row_of : (a b c a' b' c' : ℕ) → a ≡ a' → b ≡ b' → c ≡ c' →
    ◌≡◌ {A = StudentRow} (record { prior_at = a; pell_at = b; used = c }) (record { prior_at = a'; pell_at = b'; used = c' })
row_of a b c a' b' c' p q r = λ i. record { prior_at = p i; pell_at = q i; used = r i }

pub student_brought : (past : List Filing) (f : Filing) (student year : ℕ) (is_pell : Bool) (n : ℕ) (row : StudentRow) (after : YearRow) → n ≡ student →
    Brings past f student year is_pell → IsBetween 2000 2099 year → after ≡ year_row (f ∷ past) student year →
    row ≡ student_paid (student_moved (student_row past student) (year_row past student year) after) is_pell (length past + 1) →
    IsStudentAfter past f (Some (n, row))
student_brought past f student year is_pell n row after named brings between is at =
    student_written past f student row
    (at ∙ sym (row_of _ _ _ _ _ _ (brings.prior student) own used_own)) others n named
  where
    own : pell_at (f ∷ past) student ≡ first_of_two is_pell (pell_at past student) (length past + 1)
    own = brings.pell student ∙ ap (λ (b : Bool). first_of_two (b && is_pell) (pell_at past student) (length past + 1)) (eq-eqb student student refl)

    used_own : used (f ∷ past) student ≡ (used past student - use_of_year (year_row past student year)) + use_of_year after
    used_own =
        used_moved past f student year between (brings.units student) brings.changes
        ∙ ap (λ (r : YearRow). (used past student - use_of_year (year_row past student year)) + use_of_year r) (sym is)

    others : (s : ℕ) → (student == s) ≡ false → student_row (f ∷ past) s ≡ student_row past s
    others s off =
        row_of _ _ _ _ _ _ (brings.prior s)
        (brings.pell s ∙ ap (λ (b : Bool). first_of_two (b && is_pell) (pell_at past s) (length past + 1)) off)
        (used_stays past f s (brings.units s) (λ y. brings.changes s y (ap (λ (b : Bool). b && (year == y)) off)))

-- what is no payment of Pell leaves the position of the first
neither : (b : Bool) (n here : ℕ) → n ≡ first_of_two (b && false) n here
neither true n here = refl
neither false n here = refl

-- a payment of Pell
abbrev pub is_pell_payment : What → Bool
is_pell_payment (Pay a) = rank a.program == 3
is_pell_payment _ = false

-- the student and the year of a filing
abbrev pub IsOf : ℕ → ℕ → What → Type 0
IsOf student year (Apply a) = (a.student ≡ student) × (a.year ≡ year)
IsOf student year (Pay a) = (a.student ≡ student) × (a.year ≡ year)
IsOf student year (Withdraw w) = (w.student ≡ student) × (w.year ≡ year)
IsOf student year (Repay a) = (a.student ≡ student) × (a.year ≡ year)
IsOf student year (Adjust a) = (a.student ≡ student) × (a.year ≡ year)
IsOf student year _ = ⊥

brings_of : (past : List Filing) (key : Key) (what : What) (student year : ℕ) → IsOf student year what → ChangesYear past (record { key = key; what = what }) student year →
    Brings past (record { key = key; what = what }) student year (is_pell_payment what)
brings_of past key (Pay a) student year at changes = record {
  changes = changes;
  prior = λ s. refl;
  units = λ s. refl;
  pell = λ s. ap (λ (n : ℕ). first_of_two (n == s && (rank a.program == 3)) (pell_at past s) (length past + 1)) at.0;
}
brings_of past key (Apply a) student year at changes = record { changes = changes; prior = λ s. refl; units = λ s. refl; pell = λ s. neither (student == s) (pell_at past s) (length past + 1) }
brings_of past key (Withdraw a) student year at changes = record { changes = changes; prior = λ s. refl; units = λ s. refl; pell = λ s. neither (student == s) (pell_at past s) (length past + 1) }
brings_of past key (Repay a) student year at changes = record { changes = changes; prior = λ s. refl; units = λ s. refl; pell = λ s. neither (student == s) (pell_at past s) (length past + 1) }
brings_of past key (Adjust a) student year at changes = record { changes = changes; prior = λ s. refl; units = λ s. refl; pell = λ s. neither (student == s) (pell_at past s) (length past + 1) }
brings_of past key (BookFiled b) student year at changes = absurd at
brings_of past key (School b) student year at changes = absurd at
brings_of past key (Calendar b) student year at changes = absurd at
brings_of past key (Prior b) student year at changes = absurd at
brings_of past key (Enroll b) student year at changes = absurd at
brings_of past key (Originate b) student year at changes = absurd at
brings_of past key (Cost b) student year at changes = absurd at
brings_of past key (Sent b) student year at changes = absurd at
brings_of past key (Amend b) student year at changes = absurd at

pub filing_brings : (past : List Filing) (f : Filing) (what : What) (student year : ℕ) → f.what ≡ what → IsOf student year what → ChangesYear past f student year →
    Brings past f student year (is_pell_payment what)
filing_brings past f what student year is at changes =
    subst (λ (w : What). Brings past f student year (is_pell_payment w)) is
    (brings_of past f.key f.what student year (subst (λ (w : What). IsOf student year w) (sym is) at) changes)

-- a repayment or an adjustment
pub back_brings : (past : List Filing) (f : Filing) (a : Amount) → (f.what ≡ Repay a) ⊎ (f.what ≡ Adjust a) → ChangesYear past f a.student a.year →
    Brings past f a.student a.year false
back_brings past f a (inl is) changes = filing_brings past f (Repay a) a.student a.year is (refl, refl) changes
back_brings past f a (inr is) changes = filing_brings past f (Adjust a) a.student a.year is (refl, refl) changes

-- ---- the use before this office
-- a student with other units told before those on file
abbrev other : List Filing → ℕ → Option ℕ → StudentRow
other past s o = record {
  prior_at = first_of_two (is_some o) (prior_at past s) (length past + 1);
  pell_at = pell_at past s;
  used = amount_or (earlier o (earliest (λ g. prior_in s g.what) past)) + sum_over (use_in past s) all_years;
}

pub student_prior_written : (past : List Filing) (f : Filing) (p : PriorFacts) (n : ℕ) (row : StudentRow) → n ≡ p.student → f.what ≡ Prior p → IsLegal past → breaks past f ≡ None →
    row ≡ student_prior (student_row past p.student) (length past + 1) p.units → IsStudentAfter past f (Some (n, row))
student_prior_written past f p n row named is legal sound at =
    let whole = of_kind f (Prior p) is in
    subst (λ (g : Filing). IsStudentAfter past g (Some (n, row))) (sym whole)
    (go f.key (subst (λ (g : Filing). breaks past g ≡ None) whole sound))
  where
    go : (key : Key) → breaks past (record { key = key; what = Prior p }) ≡ None → IsStudentAfter past (record { key = key; what = Prior p }) (Some (n, row))
    go key rule =
        let k = all_hold (rules_of past key (Prior p)) rule in
        let first : prior_at past p.student ≡ 0 = stands_holds 80 (prior_at past p.student) p.student k.1.1.1.0 in
        let none : earliest (λ g. prior_in p.student g.what) past ≡ None = none_told (λ g. prior_in p.student g.what) past first in
        let same : (p.student == p.student) ≡ true = eq-eqb p.student p.student refl in
        let position : prior_at (record { key = key; what = Prior p } ∷ past) p.student ≡ length past + 1 =
        ap (λ (b : Bool). first_of_two (is_some (given b p.units)) (prior_at past p.student) (length past + 1)) same
        ∙ ap (λ (n : ℕ). first_of_two true n (length past + 1)) first in
        let units : prior_units (record { key = key; what = Prior p } ∷ past) p.student ≡ p.units =
        ap (λ (b : Bool). amount_or (earlier (given b p.units) (earliest (λ g. prior_in p.student g.what) past))) same
        ∙ ap (λ (o : Option ℕ). amount_or (earlier (Some p.units) o)) none in
        let old : prior_units past p.student ≡ 0 = ap amount_or none in
        let uses : used (record { key = key; what = Prior p } ∷ past) p.student ≡ used past p.student + p.units = omega arith in
        student_written past (record { key = key; what = Prior p }) p.student row
        (at ∙ sym (row_of _ _ _ _ _ _ position refl uses))
        (λ s off. ap (λ (b : Bool). other past s (given b p.units)) off) n named

pub prior_fits : (past : List Filing) (f : Filing) (p : PriorFacts) → f.what ≡ Prior p → breaks past f ≡ None → p.units ≤ 600000
prior_fits past f p is sound =
    let rule : breaks past (record { key = f.key; what = Prior p }) ≡ None = subst (λ (g : Filing). breaks past g ≡ None) (of_kind f (Prior p) is) sound in
    let k = all_hold (rules_of past f.key (Prior p)) rule in
    over_holds 81 p.units 600000 k.1.1.0

-- ---- all other kinds
abbrev changes_no_student : What → Bool
changes_no_student (Prior p) = false
changes_no_student what = changes_none what

unchanged : (past : List Filing) (key : Key) (what : What) (s : ℕ) → changes_no_student what ≡ true →
    ((y : ℕ) → year_row (record { key = key; what = what } ∷ past) s y ≡ year_row past s y) →
    student_row (record { key = key; what = what } ∷ past) s ≡ student_row past s
unchanged past key (BookFiled b) s none same = row_of _ _ _ _ _ _ refl refl (used_stays past (record { key = key; what = BookFiled b }) s refl same)
unchanged past key (School b) s none same = refl
unchanged past key (Calendar b) s none same = refl
unchanged past key (Enroll b) s none same = refl
unchanged past key (Originate b) s none same = refl
unchanged past key (Prior b) s none same = cc
unchanged past key (Apply b) s none same = cc
unchanged past key (Pay b) s none same = cc
unchanged past key (Withdraw b) s none same = cc
unchanged past key (Repay b) s none same = cc
unchanged past key (Adjust b) s none same = cc
unchanged past key (Cost b) s none same = refl
unchanged past key (Sent b) s none same = refl
unchanged past key (Amend b) s none same = refl

none_of_students : (what : What) → ((p : PriorFacts) → what ≡ Prior p → ⊥) → changes_none what ≡ true → changes_no_student what ≡ true
none_of_students (Prior p) prior e = absurd (prior p refl)
none_of_students (BookFiled b) prior e = refl
none_of_students (School b) prior e = refl
none_of_students (Calendar b) prior e = refl
none_of_students (Enroll b) prior e = refl
none_of_students (Originate b) prior e = refl
none_of_students (Apply b) prior e = e
none_of_students (Pay b) prior e = e
none_of_students (Withdraw b) prior e = e
none_of_students (Repay b) prior e = e
none_of_students (Adjust b) prior e = e
none_of_students (Cost b) prior e = refl
none_of_students (Sent b) prior e = refl
none_of_students (Amend b) prior e = refl

pub student_unchanged : (past : List Filing) (f : Filing) → changes_none f.what ≡ true → ((p : PriorFacts) → f.what ≡ Prior p → ⊥) → IsLegal past → (s : ℕ) →
    student_row (f ∷ past) s ≡ student_row past s
student_unchanged past f none prior legal s =
    unchanged past f.key f.what s (none_of_students f.what prior none) (λ y. year_unchanged past f none legal s y)
