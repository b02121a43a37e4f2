-- More income and all else equal gives no lesser index, where the book's schedule rises.
use Rattle.std.proofs.Common.{◌≡◌, ◌+◌, nat_le, Bool, false, ◌||◌, ℤ, pos, neg_ℤ, ◌+ℤ◌, ◌-ℤ◌, ◌≤ℤ◌, arith, ap, subst}
use Rattle.std.specs.Prelude.{if◌then◌else◌}
use Rattle.std.specs.Int.{int_max, int_min}
use Rattle.std.proofs.lemmas.Int.{ints, clamps}
use Rattle.aid_types.specs.Nearest.{share}
use Rattle.aid_types.specs.declared.application.Application.{Application}
use Rattle.aid_types.specs.declared.application.Side.{Side}
use Rattle.aid_books.specs.declared.book.Book.{Book}
use Rattle.aid_books.specs.declared.book.Employment.{Employment}
use Rattle.aid_books.specs.declared.book.Payroll.{Payroll}
use Rattle.aid_types.specs.declared.award.Formula.{Formula}
use Rattle.aid_types.specs.declared.award.Formula.TheVariants.{A, B, C}
use Rattle.law_sai.specs.Household.{IsRisingSchedule, asset_contribution, asset_protection, business_worth, employment_allowance, medicare, oasdi, payroll_allowance, protection_allowance, tax_allowance, total_income}
use Rattle.law_sai.specs.Lines.{household_lines, parent_lines}
use Rattle.law_sai.specs.declared.lines.ParentLines.{ParentLines}
use Rattle.law_sai.proofs.NearestOrder.{share-rises}
use Rattle.law_sai.proofs.ScheduleRises.{schedule_value-rises}
use Rattle.law_sai.specs.Formulas.{formula}
use Rattle.law_sai.specs.Income.{HasMoreIncome, IsRicher}
use Rattle.law_sai.specs.Index.{age, bounded, dependent_lines, employment_if_married, family_protection, income_contribution, index_lines, lines_of, shortfall, single_lines, single_or_married}

total_income-rises : (s t : Side) → HasMoreIncome s t → total_income s ≤ℤ total_income t
unfolding total_income
total_income-rises s t h =
    let untaxed : (s.ira +ℤ s.interest +ℤ s.ira_untaxed +ℤ s.pension +ℤ s.foreign) ≤ℤ (t.ira +ℤ t.interest +ℤ t.ira_untaxed +ℤ t.pension +ℤ t.foreign) =
    five s.ira s.interest s.ira_untaxed s.pension s.foreign t.ira t.interest t.ira_untaxed t.pension t.foreign h.ira h.interest h.ira_untaxed h.pension h.foreign in
    let offsets : s.grants +ℤ s.credits +ℤ s.work_study ≡ t.grants +ℤ t.credits +ℤ t.work_study = λ i. h.grants i +ℤ h.credits i +ℤ h.work_study i in
    three s.agi (s.ira +ℤ s.interest +ℤ s.ira_untaxed +ℤ s.pension +ℤ s.foreign) (s.grants +ℤ s.credits +ℤ s.work_study)
    t.agi (t.ira +ℤ t.interest +ℤ t.ira_untaxed +ℤ t.pension +ℤ t.foreign) (t.grants +ℤ t.credits +ℤ t.work_study) h.agi untaxed offsets
  where
    five : (a b c d e a' b' c' d' e' : ℤ) → a ≤ℤ a' → b ≤ℤ b' → c ≤ℤ c' → d ≤ℤ d' → e ≤ℤ e' → (a +ℤ b +ℤ c +ℤ d +ℤ e) ≤ℤ (a' +ℤ b' +ℤ c' +ℤ d' +ℤ e')
    five a b c d e a' b' c' d' e' p q r s t = omega (arith, ints)

    three : (a b c a' b' c' : ℤ) → a ≤ℤ a' → b ≤ℤ b' → c ≡ c' → (a +ℤ b -ℤ c) ≤ℤ (a' +ℤ b' -ℤ c')
    three a b c a' b' c' p q r = omega (arith, ints)

-- what a household is allowed, and its assets, don't depend on its income
tax_allowance-same : (s t : Side) → HasMoreIncome s t → tax_allowance s ≡ tax_allowance t
unfolding tax_allowance
tax_allowance-same s t h = ap (λ z. int_max z (pos 0)) h.tax

payroll_allowance-same : (p : Payroll) (married : Bool) (s t : Side) → HasMoreIncome s t → payroll_allowance p married s ≡ payroll_allowance p married t
unfolding payroll_allowance
payroll_allowance-same p married s t h = λ i. oasdi p (h.earned_first i) +ℤ oasdi p (h.earned_second i) +ℤ medicare p married (h.earned_first i +ℤ h.earned_second i)

employment_allowance-same : (e : Employment) (s t : Side) → HasMoreIncome s t → employment_allowance e s ≡ employment_allowance e t
unfolding employment_allowance
employment_allowance-same e s t h = λ i. int_min e.cap (share (h.earned_first i +ℤ h.earned_second i) e.rate)

-- lines of a household with more income
record HasRisen (k l : ParentLines) : Type 0 where
  available : k.available ≤ℤ l.available
  from_assets : k.from_assets ≡ l.from_assets

falls_by : (x y m n : ℤ) → x ≤ℤ y → m ≡ n → (x -ℤ m) ≤ℤ (y -ℤ n)
falls_by x y m n h k = omega (arith, ints)

household_lines-rise : (book : Book) (s t : Side) (married : Bool) (age allowed working rate : ℤ) → HasMoreIncome s t
    → HasRisen (household_lines book s married age allowed working rate) (household_lines book t married age allowed working rate)
household_lines-rise book s t married age allowed working rate h = record {
  available = falls_by _ _ _ _ (total_income-rises s t h)
      (λ i. tax_allowance-same s t h i +ℤ payroll_allowance-same book.payroll married s t h i +ℤ allowed +ℤ working);
  from_assets = λ i. asset_contribution (h.support i +ℤ h.cash i +ℤ h.investments i +ℤ business_worth book.business (h.business i) -ℤ asset_protection book.age married age) rate;
}

-- the adjusted available income of lines that have risen
adjusts : (k l : ParentLines) → HasRisen k l → (k.available +ℤ k.from_assets) ≤ℤ (l.available +ℤ l.from_assets)
adjusts k l h = let a = h.available in let f = h.from_assets in plain k.available k.from_assets l.available l.from_assets a f
  where
    plain : (x m y n : ℤ) → x ≤ℤ y → m ≡ n → (x +ℤ m) ≤ℤ (y +ℤ n)
    plain x m y n h k = omega (arith, ints)

income_contribution-rises : (book : Book) (x y : ℤ) → x ≤ℤ y → income_contribution book x ≤ℤ income_contribution book y
unfolding income_contribution
income_contribution-rises book x y h =
    let r = share-rises x y book.schedule.student_rate book.schedule.in_range.3.0 h in
    plain _ _ book.schedule.lowest_student r
  where
    plain : (v w low : ℤ) → v ≤ℤ w → int_max v low ≤ℤ int_max w low
    plain v w low h = omega (arith, ints, clamps)

bounded-rises : (x y : ℤ) → x ≤ℤ y → bounded x ≤ℤ bounded y
bounded-rises x y h = omega (arith, ints, clamps)

-- ---- the parents
parents-rise : (book : Book) (a b : Application) → IsRicher a b → HasRisen
    (household_lines book a.parents a.parents_married (pos a.parent_age) (protection_allowance book.protection.parents a.family) (employment_allowance book.employment a.parents) book.assets.parents_rate)
    (household_lines book b.parents b.parents_married (pos b.parent_age) (protection_allowance book.protection.parents b.family) (employment_allowance book.employment b.parents) book.assets.parents_rate)
parents-rise book a b h =
    subst (HasRisen (household_lines book a.parents a.parents_married (pos a.parent_age) (protection_allowance book.protection.parents a.family) (employment_allowance book.employment a.parents) book.assets.parents_rate))
    (λ i. household_lines book b.parents (h.parents_married i) (pos (h.parent_age i)) (protection_allowance book.protection.parents (h.family i)) (employment_allowance-same book.employment a.parents b.parents h.parents i) book.assets.parents_rate)
    (household_lines-rise book a.parents b.parents a.parents_married (pos a.parent_age) (protection_allowance book.protection.parents a.family) (employment_allowance book.employment a.parents) book.assets.parents_rate h.parents)

adjusted-rises : (book : Book) (a b : Application) → IsRicher a b → (parent_lines book a).adjusted ≤ℤ (parent_lines book b).adjusted
adjusted-rises book a b h = adjusts _ _ (parents-rise book a b h)

contribution-rises : (book : Book) (a b : Application) → IsRisingSchedule book → IsRicher a b → (parent_lines book a).contribution ≤ℤ (parent_lines book b).contribution
contribution-rises book a b s h = schedule_value-rises book _ _ s (adjusted-rises book a b h)

-- ---- the student
shortfall-falls : (k l : ParentLines) → k.adjusted ≤ℤ l.adjusted → shortfall l ≤ℤ shortfall k
shortfall-falls k l h = plain k.adjusted l.adjusted h
  where
    plain : (x y : ℤ) → x ≤ℤ y → int_max (pos 0) (neg_ℤ y) ≤ℤ int_max (pos 0) (neg_ℤ x)
    plain x y h = omega (arith, ints, clamps)

dependent_lines-rise : (book : Book) (a b : Application) → IsRicher a b
    → HasRisen (dependent_lines book a (parent_lines book a)) (dependent_lines book b (parent_lines book b))
dependent_lines-rise book a b h = record {
  available = plain _ _ _ _ _ _ (total_income-rises a.own b.own h.own)
      (λ i. tax_allowance-same a.own b.own h.own i +ℤ payroll_allowance-same book.payroll false a.own b.own h.own i +ℤ book.protection.dependent_student)
      (shortfall-falls (parent_lines book a) (parent_lines book b) (adjusted-rises book a b h));
  from_assets = λ i. share (h.own.cash i +ℤ h.own.investments i +ℤ h.own.business i) book.assets.dependent_rate;
}
  where
    plain : (x y m n s t : ℤ) → x ≤ℤ y → m ≡ n → t ≤ℤ s → (x -ℤ (m +ℤ s)) ≤ℤ (y -ℤ (n +ℤ t))
    plain x y m n s t h k l = omega (arith, ints)

single_lines-rise : (book : Book) (a b : Application) → IsRicher a b → HasRisen (single_lines book a) (single_lines book b)
single_lines-rise book a b h =
    subst (HasRisen (single_lines book a))
    (λ i. household_lines book b.own (h.married i) (pos book.year -ℤ pos (h.birth_year i))
    (if h.married i then book.protection.married_student else book.protection.single_student)
    (if h.married i then employment_allowance-same book.employment a.own b.own h.own i else pos 0) book.assets.no_dependents_rate)
    (household_lines-rise book a.own b.own a.married (age book a) (single_or_married book a) (employment_if_married book a) book.assets.no_dependents_rate h.own)

family-rises : (book : Book) (a b : Application) → IsRicher a b → HasRisen
    (household_lines book a.own a.married (age book a) (family_protection book a) (employment_allowance book.employment a.own) book.assets.with_dependents_rate)
    (household_lines book b.own b.married (age book b) (family_protection book b) (employment_allowance book.employment b.own) book.assets.with_dependents_rate)
family-rises book a b h =
    subst (HasRisen (household_lines book a.own a.married (age book a) (family_protection book a) (employment_allowance book.employment a.own) book.assets.with_dependents_rate))
    (λ i. household_lines book b.own (h.married i) (pos book.year -ℤ pos (h.birth_year i))
    (protection_allowance (if h.married i then book.protection.married_parent else book.protection.single_parent) (h.family i))
    (employment_allowance-same book.employment a.own b.own h.own i) book.assets.with_dependents_rate)
    (household_lines-rise book a.own b.own a.married (age book a) (family_protection book a) (employment_allowance book.employment a.own) book.assets.with_dependents_rate h.own)

-- ---- the index
raw-rises : (f : Formula) (book : Book) (a b : Application) → IsRisingSchedule book → IsRicher a b → (lines_of f book a).raw ≤ℤ (lines_of f book b).raw
raw-rises A book a b s h =
    let own = dependent_lines-rise book a b h in
    three _ _ _ _ _ _ (contribution-rises book a b s h) (income_contribution-rises book _ _ own.available) own.from_assets
  where
    three : (x y z x' y' z' : ℤ) → x ≤ℤ x' → y ≤ℤ y' → z ≡ z' → (x +ℤ y +ℤ z) ≤ℤ (x' +ℤ y' +ℤ z')
    three x y z x' y' z' h k l = omega (arith, ints)
raw-rises B book a b s h =
    let own = single_lines-rise book a b h in
    two _ _ _ _ (income_contribution-rises book _ _ own.available) own.from_assets
  where
    two : (y z y' z' : ℤ) → y ≤ℤ y' → z ≡ z' → (y +ℤ z) ≤ℤ (y' +ℤ z')
    two y z y' z' k l = omega (arith, ints)
raw-rises C book a b s h = schedule_value-rises book _ _ s (adjusts _ _ (family-rises book a b h))

index-rises : (f : Formula) (book : Book) (a b : Application) → IsRisingSchedule book → IsRicher a b → (lines_of f book a).index ≤ℤ (lines_of f book b).index
index-rises A book a b s h = bounded-rises _ _ (raw-rises A book a b s h)
index-rises B book a b s h = bounded-rises _ _ (raw-rises B book a b s h)
index-rises C book a b s h = bounded-rises _ _ (raw-rises C book a b s h)

formula-same : (book : Book) (a b : Application) → IsRicher a b → formula book a ≡ formula book b
formula-same book a b h =
    λ i. if nat_le (h.birth_year i + 24) book.year || h.married i || h.graduate i || h.veteran i || h.dependents i
    || h.orphan i || h.ward i || h.foster i || h.emancipated i || h.homeless i
    then (if h.dependents i then C else B) else A

pub index_lines-rise : (book : Book) (a b : Application) → IsRisingSchedule book → IsRicher a b → (index_lines book a).index ≤ℤ (index_lines book b).index
index_lines-rise book a b s h =
    subst (λ f. (index_lines book a).index ≤ℤ (lines_of f book b).index) (formula-same book a b h) (index-rises (formula book a) book a b s h)
