-- Numbers that are read, and what is told of them.
use Rattle.std.proofs.Common.{rules, ◌≡◌, ◌≤ℤ◌, ℕ, ℤ, pos, negsuc, Bool, true, false, Option, Some, None, Result, Ok, Err, refl, sym, ap, subst, ◌∙◌}
use Rattle.std.specs.Prelude.{unsigned_abs, int_le, is_some, nat_le, ◌&&◌, if◌then◌else◌}
use Rattle.aid_types.specs.Cents.{cents_up_to}
use Rattle.aid_types.specs.Whole.{whole_between}
use Rattle.aid_types.specs.declared.text.Malformed.{Malformed}
use Rattle.aid_types.specs.declared.text.Malformed.TheVariants.{Range}
use Rattle.office_export.specs.Forms.{LineForm, form_of_student, standing_form}
use Rattle.office_export.specs.Said.{is_spelled, number_of}

-- a number that isn't below 0 is its size
pub size_between : (low high z : ℤ) (n : ℕ) → n ≡ unsigned_abs z → pos 0 ≤ℤ low → low ≤ℤ z → z ≤ℤ high → (low ≤ℤ pos n) × (pos n ≤ℤ high)
size_between low high (pos m) n is from above below = (subst (λ (x : ℕ). low ≤ℤ pos x) (sym is) above, subst (λ (x : ℕ). pos x ≤ℤ high) (sym is) below)
size_between low high (negsuc m) n is from above below = absurd (let bad : ⊥ = search rules in bad)

-- the form by the numbers of a student and a year
abbrev pub form_of_numbers : Option ℕ → Option ℕ → Option LineForm
form_of_numbers (Some student) (Some year) = Some (standing_form student year)
form_of_numbers _ _ = None

pub form_by_numbers : (a b : Result ℤ Malformed) → form_of_student a b ≡ form_of_numbers (number_of a) (number_of b)
form_by_numbers (Ok s) (Ok y) = refl
form_by_numbers (Ok s) (Err e) = refl
form_by_numbers (Err e) (Ok y) = refl
form_by_numbers (Err e) (Err d) = refl

pub form_of_none : (o : Option ℕ) → None ≡ form_of_numbers o None
form_of_none (Some n) = refl
form_of_none None = refl

-- whether a text was spelled well
pub whole_well : (low high : ℤ) (o : Option ℤ) (r : Result ℤ Malformed) → r ≡ whole_between low high o → is_spelled r ≡ is_some o
whole_well low high o r e = ap is_spelled e ∙ go o
  where
    ranged : (z : ℤ) (b : Bool) → is_spelled {A = ℤ} (if b then Ok z else Err Range) ≡ true
    ranged z true = refl
    ranged z false = refl

    go : (o : Option ℤ) → is_spelled (whole_between low high o) ≡ is_some o
    go None = refl
    go (Some z) = ranged z (int_le low z && int_le z high)

pub cents_well : (most : ℕ) (o : Option ℕ) (r : Result ℕ Malformed) → r ≡ cents_up_to most o → is_spelled r ≡ is_some o
cents_well most o r e = ap is_spelled e ∙ go o
  where
    ranged : (n : ℕ) (b : Bool) → is_spelled {A = ℕ} (if b then Ok n else Err Range) ≡ true
    ranged n true = refl
    ranged n false = refl

    go : (o : Option ℕ) → is_spelled (cents_up_to most o) ≡ is_some o
    go None = refl
    go (Some n) = ranged n (nat_le n most)
