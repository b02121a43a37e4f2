-- The computed lines are the lines of the equations, and no others are.
use Rattle.std.proofs.Common.{◌≡◌, ◌+ℤ◌, ◌-ℤ◌, refl, sym, ap, subst, ◌∙◌}
use Rattle.aid_types.specs.Nearest.{share}
use Rattle.aid_types.specs.declared.application.Application.{Application}
use Rattle.aid_books.specs.declared.book.Book.{Book}
use Rattle.aid_types.specs.declared.award.Formula.{Formula}
use Rattle.aid_types.specs.declared.award.Formula.TheVariants.{A, B, C}
use Rattle.law_sai.specs.Household.{employment_allowance}
use Rattle.law_sai.specs.Lines.{parent_lines}
use Rattle.law_sai.specs.declared.lines.ParentLines.{ParentLines}
use Rattle.law_sai.proofs.LinesLaws.{assessed_lines-are, assessed_lines-only, household_lines-are, household_lines-only, parent_lines-are, parent_lines-only}
use Rattle.law_sai.specs.Formulas.{formula}
use Rattle.law_sai.specs.Index.{AreDependentLines, AreFamilyLines, AreIndexLines, AreLinesOf, AreSingleLines, age, bounded, dependent_lines, employment_if_married, family_lines, family_protection, income_contribution, index_lines, lines_of, shortfall, single_lines, single_or_married}
use Rattle.law_sai.specs.Indices.{index_of, raw_index}
use Rattle.law_sai.specs.declared.IndexLines.{IndexLines}

pub dependent_lines-are : (book : Book) (a : Application) (parent : ParentLines) → AreDependentLines book a parent (dependent_lines book a parent)
dependent_lines-are book a parent = record {
  total = refl;
  tax = refl;
  payroll = refl;
  protection = refl;
  employment = refl;
  allowances = refl;
  available = refl;
  business = refl;
  worth = refl;
  asset_protection = refl;
  discretionary = refl;
  from_assets = refl;
  not_assessed = record { adjusted = refl; contribution = refl };
}

pub dependent_lines-only : (book : Book) (a : Application) (parent l : ParentLines) → AreDependentLines book a parent l → l ≡ dependent_lines book a parent
dependent_lines-only book a parent l h =
    let allowances = h.allowances ∙ (λ i. h.tax i +ℤ h.payroll i +ℤ h.protection i +ℤ shortfall parent) in
    λ i. record {
      total = h.total i;
      tax = h.tax i;
      payroll = h.payroll i;
      protection = h.protection i;
      employment = h.employment i;
      allowances = allowances i;
      available = (h.available ∙ (λ j. h.total j -ℤ allowances j)) i;
      business = h.business i;
      worth = h.worth i;
      asset_protection = h.asset_protection i;
      discretionary = (h.discretionary ∙ h.worth) i;
      from_assets = (h.from_assets ∙ ap (λ z. share z book.assets.dependent_rate) h.worth) i;
      adjusted = h.not_assessed.adjusted i;
      contribution = h.not_assessed.contribution i;
    }

pub single_lines-are : (book : Book) (a : Application) → AreSingleLines book a (single_lines book a)
single_lines-are book a = record {
  lines = household_lines-are book a.own a.married (age book a) (single_or_married book a) (employment_if_married book a) book.assets.no_dependents_rate;
  not_assessed = record { adjusted = refl; contribution = refl };
}

pub single_lines-only : (book : Book) (a : Application) (l : ParentLines) → AreSingleLines book a l → l ≡ single_lines book a
single_lines-only book a l h =
    household_lines-only book a.own a.married (age book a) (single_or_married book a) (employment_if_married book a) book.assets.no_dependents_rate l h.lines h.not_assessed

pub family_lines-are : (book : Book) (a : Application) → AreFamilyLines book a (family_lines book a)
family_lines-are book a = record {
  lines = assessed_lines-are book a.own a.married (age book a) (family_protection book a) (employment_allowance book.employment a.own) book.assets.with_dependents_rate _
      (household_lines-are book a.own a.married (age book a) (family_protection book a) (employment_allowance book.employment a.own) book.assets.with_dependents_rate);
  assessed = record { adjusted = refl; contribution = refl };
}

pub family_lines-only : (book : Book) (a : Application) (l : ParentLines) → AreFamilyLines book a l → l ≡ family_lines book a
family_lines-only book a l h =
    assessed_lines-only book a.own a.married (age book a) (family_protection book a) (employment_allowance book.employment a.own) book.assets.with_dependents_rate l h.lines h.assessed

-- ---- the whole answer
lines_of-are : (f : Formula) (book : Book) (a : Application) → AreLinesOf f book a (lines_of f book a)
lines_of-are A book a = (parent_lines-are book a, dependent_lines-are book a (parent_lines book a), refl, refl)
lines_of-are B book a = (refl, single_lines-are book a, refl, refl)
lines_of-are C book a = (refl, family_lines-are book a, refl, refl)

formula_of-lines : (f : Formula) (book : Book) (a : Application) → (lines_of f book a).formula ≡ f
formula_of-lines A book a = refl
formula_of-lines B book a = refl
formula_of-lines C book a = refl

index_of-lines : (f : Formula) (book : Book) (a : Application) → (lines_of f book a).index ≡ bounded (lines_of f book a).raw
index_of-lines A book a = refl
index_of-lines B book a = refl
index_of-lines C book a = refl

pub index_lines-are : (book : Book) (a : Application) → AreIndexLines book a (index_lines book a)
index_lines-are book a = record {
  formula = formula_of-lines (formula book a) book a;
  lines = subst (λ f. AreLinesOf f book a (index_lines book a)) (sym (formula_of-lines (formula book a) book a)) (lines_of-are (formula book a) book a);
  index = index_of-lines (formula book a) book a;
}

lines_of-only : (f : Formula) (book : Book) (a : Application) (l : IndexLines) → l.formula ≡ f → AreLinesOf f book a l → l.index ≡ bounded l.raw → l ≡ lines_of f book a
lines_of-only A book a l e h k =
    let parent = parent_lines-only book a l.parent h.0 in
    let own = dependent_lines-only book a l.parent l.own h.1 ∙ ap (dependent_lines book a) parent in
    let from_income = h.2 ∙ (λ i. income_contribution book (own i).available) in
    let raw = h.3 ∙ (λ i. (parent i).contribution +ℤ from_income i +ℤ (own i).from_assets) in
    λ i. record { formula = e i; parent = parent i; own = own i; from_income = from_income i; raw = raw i; index = (k ∙ ap bounded raw) i }
lines_of-only B book a l e h k =
    let own = single_lines-only book a l.own h.1 in
    let from_income = h.2 ∙ (λ i. income_contribution book (own i).available) in
    let raw = h.3 ∙ (λ i. from_income i +ℤ (own i).from_assets) in
    λ i. record { formula = e i; parent = h.0 i; own = own i; from_income = from_income i; raw = raw i; index = (k ∙ ap bounded raw) i }
lines_of-only C book a l e h k =
    let own = family_lines-only book a l.own h.1 in
    let raw = h.3 ∙ (λ i. (own i).contribution) in
    λ i. record { formula = e i; parent = h.0 i; own = own i; from_income = h.2 i; raw = raw i; index = (k ∙ ap bounded raw) i }

pub index_lines-only : (book : Book) (a : Application) (l : IndexLines) → AreIndexLines book a l → l ≡ index_lines book a
index_lines-only book a l h =
    lines_of-only (formula book a) book a l h.formula (subst (λ f. AreLinesOf f book a l) h.formula h.lines) h.index

-- the raw index of the lines is that of the amounts alone
raw_of_lines : (f : Formula) (book : Book) (a : Application) → (lines_of f book a).index ≡ bounded (raw_index f book a)
raw_of_lines A book a = refl
raw_of_lines B book a = refl
raw_of_lines C book a = refl

pub index_of_lines : (book : Book) (a : Application) → (index_lines book a).index ≡ index_of book a
index_of_lines book a = raw_of_lines (formula book a) book a
