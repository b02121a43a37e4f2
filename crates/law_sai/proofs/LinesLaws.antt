-- The computed lines are the lines of the equations, and no others are.
use Rattle.std.proofs.Common.{◌≡◌, Bool, ℤ, pos, ◌+ℤ◌, ◌-ℤ◌, refl, ap, ◌∙◌}
use Rattle.aid_types.specs.declared.application.Application.{Application}
use Rattle.aid_types.specs.declared.application.Side.{Side}
use Rattle.aid_books.specs.declared.book.Book.{Book}
use Rattle.law_sai.specs.Household.{asset_contribution, employment_allowance, protection_allowance, schedule_value}
use Rattle.law_sai.specs.Lines.{AreHouseholdLines, AreParentLines, IsAssessed, IsNotAssessed, assessed_lines, household_lines, parent_lines}
use Rattle.law_sai.specs.declared.lines.ParentLines.{ParentLines}

pub household_lines-are : (book : Book) (side : Side) (married : Bool) (age allowed working rate : ℤ)
    → AreHouseholdLines book side married age allowed working rate (household_lines book side married age allowed working rate)
household_lines-are book side married age allowed working rate = record {
  total = refl;
  tax = refl;
  payroll = refl;
  protection = refl;
  employment = refl;
  allowances = refl;
  available = refl;
  business = refl;
  worth = refl;
  asset_protection = refl;
  discretionary = refl;
  from_assets = refl;
}

pub assessed_lines-are : (book : Book) (side : Side) (married : Bool) (age allowed working rate : ℤ) (l : ParentLines)
    → AreHouseholdLines book side married age allowed working rate l
    → AreHouseholdLines book side married age allowed working rate (assessed_lines book l)
assessed_lines-are book side married age allowed working rate l h = record {
  total = h.total;
  tax = h.tax;
  payroll = h.payroll;
  protection = h.protection;
  employment = h.employment;
  allowances = h.allowances;
  available = h.available;
  business = h.business;
  worth = h.worth;
  asset_protection = h.asset_protection;
  discretionary = h.discretionary;
  from_assets = h.from_assets;
}

pub parent_lines-are : (book : Book) (a : Application) → AreParentLines book a (parent_lines book a)
parent_lines-are book a = record {
  lines = assessed_lines-are book _ _ _ _ _ _ _ (household_lines-are book a.parents a.parents_married (pos a.parent_age) (protection_allowance book.protection.parents a.family) (employment_allowance book.employment a.parents) book.assets.parents_rate);
  assessed = record { adjusted = refl; contribution = refl };
}

-- lines that meet the equations of income and assets are the computed ones up to the last two
pub household_lines-but : (book : Book) (side : Side) (married : Bool) (age allowed working rate : ℤ) (l : ParentLines)
    → AreHouseholdLines book side married age allowed working rate l
    → l ≡ record (household_lines book side married age allowed working rate) { adjusted = l.adjusted; contribution = l.contribution }
household_lines-but book side married age allowed working rate l h =
    let allowances = h.allowances ∙ (λ i. h.tax i +ℤ h.payroll i +ℤ h.protection i +ℤ h.employment i) in
    let worth = h.worth ∙ ap (λ z. side.support +ℤ side.cash +ℤ side.investments +ℤ z) h.business in
    let discretionary = h.discretionary ∙ (λ i. worth i -ℤ h.asset_protection i) in
    λ i. record {
      total = h.total i;
      tax = h.tax i;
      payroll = h.payroll i;
      protection = h.protection i;
      employment = h.employment i;
      allowances = allowances i;
      available = (h.available ∙ (λ j. h.total j -ℤ allowances j)) i;
      business = h.business i;
      worth = worth i;
      asset_protection = h.asset_protection i;
      discretionary = discretionary i;
      from_assets = (h.from_assets ∙ ap (λ z. asset_contribution z rate) discretionary) i;
      adjusted = l.adjusted;
      contribution = l.contribution;
    }

pub household_lines-only : (book : Book) (side : Side) (married : Bool) (age allowed working rate : ℤ) (l : ParentLines)
    → AreHouseholdLines book side married age allowed working rate l → IsNotAssessed l
    → l ≡ household_lines book side married age allowed working rate
household_lines-only book side married age allowed working rate l h k =
    household_lines-but book side married age allowed working rate l h
    ∙ (λ i. record (household_lines book side married age allowed working rate) { adjusted = k.adjusted i; contribution = k.contribution i })

pub assessed_lines-only : (book : Book) (side : Side) (married : Bool) (age allowed working rate : ℤ) (l : ParentLines)
    → AreHouseholdLines book side married age allowed working rate l → IsAssessed book l
    → l ≡ assessed_lines book (household_lines book side married age allowed working rate)
assessed_lines-only book side married age allowed working rate l h k =
    let but = household_lines-but book side married age allowed working rate l h in
    let adjusted = k.adjusted ∙ (λ i. (but i).available +ℤ (but i).from_assets) in
    let contribution = k.contribution ∙ ap (schedule_value book) adjusted in
    but ∙ (λ i. record (household_lines book side married age allowed working rate) { adjusted = adjusted i; contribution = contribution i })

pub parent_lines-only : (book : Book) (a : Application) (l : ParentLines) → AreParentLines book a l → l ≡ parent_lines book a
parent_lines-only book a l h =
    assessed_lines-only book a.parents a.parents_married (pos a.parent_age) (protection_allowance book.protection.parents a.family)
    (employment_allowance book.employment a.parents) book.assets.parents_rate l h.lines h.assessed
