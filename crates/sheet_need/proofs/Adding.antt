-- The lines of households add up: the laws of the lines themselves (law_sai, Lines) but for total income, whose parts the law groups.
use Rattle.std.proofs.Common.{◌≡◌, refl, ◌∙◌, ℕ, ℤ, pos, ◌+ℤ◌, ◌-ℤ◌, Bool, true, false, List, [], ◌∷◌, ◌++◌, arith}
use Rattle.std.specs.Prelude.{if◌then◌else◌, int_lt}
use Rattle.std.specs.Ordering.{int_eq}
use Rattle.std.proofs.lemmas.Int.{ints}
use Rattle.aid_books.specs.declared.book.Book.{Book}
use Rattle.aid_types.specs.declared.application.Application.{Application}
use Rattle.aid_types.specs.declared.application.Side.{Side}
use Rattle.aid_types.specs.declared.award.Formula.{Formula}
use Rattle.aid_types.specs.declared.award.Formula.TheVariants.{A, B, C}
use Rattle.law_sai.specs.Household.{total_income}
use Rattle.law_sai.specs.Index.{age, family_lines, lines_of, shortfall}
use Rattle.law_sai.specs.Lines.{parent_lines}
use Rattle.law_sai.specs.declared.IndexLines.{IndexLines}
use Rattle.law_sai.specs.declared.lines.ParentLines.{ParentLines}
use Rattle.sheet_need.specs.NeedEntries.{assessed_entries, asset_entries, dependent_assets, dependent_entries, from_assets, schedule_entries, single_entries, worked, worked_with, worth_entries}
use Rattle.sheet_need.specs.NeedSums.{AddUp, HouseholdsAddUp}
use Rattle.sheet_need.specs.declared.entry.Entry.{Entry}
use Rattle.sheet_need.specs.declared.entry.Label.TheVariants.{FromIncome, LeastFromIncome, NoneFromAssets}
use Rattle.sheet_need.specs.declared.entry.Mark.TheVariants.{Blank}
use Rattle.sheet_need.specs.declared.entry.Part.TheVariants.{Rate}

-- one of two lines
either : (b : Bool) (sum : ℤ) (x y : Entry) (es : List Entry) → AddUp sum (x ∷ es) → AddUp sum (y ∷ es) → AddUp sum ((if b then x else y) ∷ es)
either true sum x y es h g = h
either false sum x y es h g = g

-- total income, one part after the other
total : (s : Side) → total_income s ≡ s.agi +ℤ s.ira +ℤ s.interest +ℤ s.ira_untaxed +ℤ s.pension +ℤ s.foreign -ℤ s.grants -ℤ s.credits -ℤ s.work_study
unfolding total_income
total s = omega (arith, ints)

-- what a rate takes of assets, and the lines below
taken : (rate : ℤ) (l : ParentLines) (es : List Entry) → AddUp l.from_assets es → AddUp l.discretionary ((if int_lt l.discretionary (pos 0) then worked Blank NoneFromAssets l.from_assets else from_assets rate l) ∷ es)
taken rate l es below = either (int_lt l.discretionary (pos 0)) l.discretionary (worked Blank NoneFromAssets l.from_assets) (from_assets rate l) es (tt, below) (tt, below)

-- a student's contribution from income, and the lines below
given : (book : Book) (l : IndexLines) (es : List Entry) → AddUp l.from_income es
    → AddUp l.own.available ((if int_eq l.from_income book.schedule.lowest_student then worked Blank LeastFromIncome l.from_income
    else worked_with Blank FromIncome (Rate book.schedule.student_rate) l.from_income) ∷ es)
given book l es below =
    either (int_eq l.from_income book.schedule.lowest_student) l.own.available (worked Blank LeastFromIncome l.from_income)
    (worked_with Blank FromIncome (Rate book.schedule.student_rate) l.from_income) es (tt, below) (tt, below)

-- a household that the schedule assesses
assessed : (s : Side) (family : ℕ) (years rate : ℤ) (l : ParentLines) → l.total ≡ total_income s → l.allowances ≡ l.tax +ℤ l.payroll +ℤ l.protection +ℤ l.employment
    → l.worth ≡ s.support +ℤ s.cash +ℤ s.investments +ℤ l.business → l.discretionary ≡ l.worth -ℤ l.asset_protection
    → AddUp (pos 0) (assessed_entries s family years rate l)
assessed s family years rate l income allowed worth rest =
    (tt, (tt, (tt, (tt, (tt, (tt, (tt, (tt, (tt, (income ∙ total s, (tt, (tt, (tt, (tt, (allowed, (tt, (tt, (tt, (tt, (tt, (worth, (tt, (rest, taken rate l (schedule_entries l) (tt, (tt, tt)))))))))))))))))))))))))

-- a dependent student
dependent : (book : Book) (a : Application) (l : IndexLines) → l.own.total ≡ total_income a.own
    → l.own.allowances ≡ l.own.tax +ℤ l.own.payroll +ℤ l.own.protection +ℤ shortfall l.parent
    → l.own.worth ≡ a.own.cash +ℤ a.own.investments +ℤ a.own.business → AddUp (pos 0) (dependent_entries book a l)
dependent book a l income allowed worth =
    (tt, (tt, (tt, (tt, (tt, (tt, (tt, (tt, (tt, (income ∙ total a.own, (tt, (tt, (tt, (tt, (allowed, (tt, given book l (dependent_assets a.own book.assets.dependent_rate l.own) (tt, (tt, (tt, (worth, (tt, tt)))))))))))))))))))))

-- a student without dependents
single : (book : Book) (a : Application) (l : IndexLines) → l.own.total ≡ total_income a.own
    → l.own.allowances ≡ l.own.tax +ℤ l.own.payroll +ℤ l.own.protection +ℤ l.own.employment
    → l.own.worth ≡ a.own.support +ℤ a.own.cash +ℤ a.own.investments +ℤ l.own.business → l.own.discretionary ≡ l.own.worth -ℤ l.own.asset_protection
    → AddUp (pos 0) (single_entries book a l)
single book a l income allowed worth rest =
    (tt, (tt, (tt, (tt, (tt, (tt, (tt, (tt, (tt, (income ∙ total a.own, (tt, (tt, (tt, (tt, (allowed, (tt, given book l (worth_entries a.own l.own ++ asset_entries (age book a) book.assets.no_dependents_rate l.own) (tt, (tt, (tt, (tt, (worth, (tt, (rest, taken book.assets.no_dependents_rate l.own [] tt)))))))))))))))))))))))

-- the households of a formula
pub households : (f : Formula) (book : Book) (a : Application) → HouseholdsAddUp f book a (lines_of f book a)
households A book a =
    (assessed a.parents a.family (pos a.parent_age) book.assets.parents_rate (parent_lines book a) refl refl refl refl, dependent book a (lines_of A book a) refl refl refl)
households B book a = single book a (lines_of B book a) refl refl refl refl
households C book a = assessed a.own a.family (age book a) book.assets.with_dependents_rate (family_lines book a) refl refl refl refl
