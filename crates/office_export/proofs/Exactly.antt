-- The items in order rise, and are exactly those that the filings tell; applicants are students' numbers.
use Rattle.std.proofs.Common.{◌≡◌, ℕ, ◌<◌, ◌≤◌, length, refl, sym, ap, subst, ◌∙◌, true, List, [], ◌∷◌, Option, Some, None, ◌⊎◌, inl, inr, arith}
use Rattle.std.specs.Prelude.{◌↔◌}
use Rattle.std.specs.Cmp.{IsTotalOrder}
use Rattle.std.specs.List.{All, AllByRecursion, AllPairs, Contains, cons_option}
use Rattle.std.specs.List.Sorted.{IsStrictlySortedBy}
use Rattle.std.specs.Ordering.{eq_by_cmp, is_eq, nat_cmp}
use Rattle.std.specs.declared.cmp.Ordering.{Ordering}
use Rattle.std.specs.declared.cmp.Ordering.TheVariants.{Less, Equal, Greater}
use Rattle.std.proofs.lemmas.Cmp.{eq_by_cmp_equiv, nat_cmp_total, ranked}
use Rattle.std.proofs.lemmas.List.Elements.{All-cons, All-nil}
use Rattle.std.proofs.lemmas.List.Kept.{AllPairs-cons}
use Rattle.std.proofs.lemmas.Map.Lookups.{CmpEqualImpliesEq, exact_unsigned}
use Rattle.std.proofs.lemmas.Map.Views.{Contains-from_any, list_any-from_Contains}
use Rattle.std.proofs.lemmas.Option.{same_Some}
use Rattle.aid_filings.specs.declared.filing.Filing.{Filing}
use Rattle.office_history.proofs.Among.{among_cases, among_head, among_rest}
use Rattle.office_export.specs.Applicants.{applicant, applicants, told_by}
use Rattle.office_export.specs.InOrder.{in_order}
use Rattle.office_export.specs.Told.{IsTold}
use Rattle.office_export.proofs.InOrder.{holds, length-in_order, rises}
use Rattle.office_export.proofs.Told.{length-told_by}

-- ---- what rises by an order rises as that order means
module _ {K : Type 0} (R : K → K → Ordering) (B : K → K → Type 0) (means : (x y : K) → R x y ≡ Less → B x y) where
  before_all : (x : K) (xs : List K) → AllByRecursion (λ y. R x y ≡ Less) xs → All (B x) xs
  before_all x [] all = All-nil (B x)
  before_all x (y ∷ ys) all = All-cons (B x) y ys (means x y all.0) (before_all x ys all.1)

  pub rising : (xs : List K) → IsStrictlySortedBy R xs → AllPairs B xs
  unfolding IsStrictlySortedBy
  rising [] up = λ i j d lt le. absurd (omega arith)
  rising (x ∷ xs) up = AllPairs-cons B x xs (before_all x xs up.0) (rising xs up.1)

-- numbers
pub number_less : (x y : ℕ) → nat_cmp x y ≡ Less → x < y
number_less x y e = ranked x y Less (sym e)

pub number_same : (x y : ℕ) → nat_cmp x y ≡ Equal → x ≡ y
number_same x y e = ranked x y Equal (sym e)

-- ---- what is told by filings is told by one of them
kept_new : {A : Type 0} (o : Option A) (xs : List A) (x : A) → o ≡ Some x → Contains (cons_option o xs) x
kept_new None xs x e = absurd cc
kept_new (Some a) xs x e = subst (λ b. Contains (a ∷ xs) b) (same_Some a x e) (among_head a xs)

kept_old : {A : Type 0} (o : Option A) (xs : List A) (x : A) → Contains xs x → Contains (cons_option o xs) x
kept_old None xs x h = h
kept_old (Some a) xs x h = among_rest a xs x h

kept_cases : {A : Type 0} (o : Option A) (xs : List A) (x : A) → Contains (cons_option o xs) x → (o ≡ Some x) ⊎ Contains xs x
kept_cases None xs x h = inr h
kept_cases (Some a) xs x h = go (among_cases a xs x h)
  where
    go : (a ≡ x) ⊎ Contains xs x → (Some a ≡ Some x) ⊎ Contains xs x
    go (inl e) = inl (ap Some e)
    go (inr k) = inr k

module _ {A : Type 0} (operation : Filing → Option A) where
  one_told : (past : List Filing) (f : Filing) (x : A) → Contains past f → operation f ≡ Some x → Contains (told_by operation past) x
  one_told [] f x among e = absurd (omega (arith, among.1))
  one_told (g ∷ past) f x among e = go (λ k. one_told past f x k e) (among_cases g past f among)
    where
      go : (Contains past f → Contains (told_by operation past) x) → (g ≡ f) ⊎ Contains past f → Contains (cons_option (operation g) (told_by operation past)) x
      go ih (inl same) = kept_new (operation g) (told_by operation past) x (ap operation same ∙ e)
      go ih (inr k) = kept_old (operation g) (told_by operation past) x (ih k)

  told_one : (past : List Filing) (x : A) → Contains (told_by operation past) x → IsTold operation past x
  told_one [] x h = absurd (omega (arith, h.1))
  told_one (g ∷ past) x h = go (told_one past x) (kept_cases (operation g) (told_by operation past) x h)
    where
      go : (Contains (told_by operation past) x → IsTold operation past x) → (operation g ≡ Some x) ⊎ Contains (told_by operation past) x → IsTold operation (g ∷ past) x
      go ih (inl e) = (g, among_head g past, e)
      go ih (inr k) = let t = ih k in (t.0, among_rest g past t.0 t.1, t.2)

-- ---- the list in order has exactly what is told
module _ {K : Type 0} {R : K → K → Ordering} (o : IsTotalOrder R) (exact : CmpEqualImpliesEq R) where
  same_key : (x y : K) → eq_by_cmp R x y ≡ true → x ≡ y
  same_key x y e = go (R x y) refl e
    where
      go : (r : Ordering) → R x y ≡ r → is_eq r ≡ true → x ≡ y
      go Equal h t = exact x y h
      go Less h t = absurd cc
      go Greater h t = absurd cc

  pub exactly : (operation : Filing → Option K) (past : List Filing) (x : K) → Contains (in_order R (told_by operation past)) x ↔ IsTold operation past x
  exactly operation past x = (
    λ h. told_one operation past x (Contains-from_any same_key x (told_by operation past) (sym (holds o x (told_by operation past)) ∙ list_any-from_Contains (eq_by_cmp_equiv o) x (in_order R (told_by operation past)) h)),
    λ h. Contains-from_any same_key x (in_order R (told_by operation past)) (holds o x (told_by operation past) ∙ list_any-from_Contains (eq_by_cmp_equiv o) x (told_by operation past) (one_told operation past h.0 x h.1 h.2)),
  )

-- ---- the applicants of a year rise, and are those of applications in it
pub applicants_rise : (past : List Filing) (year : ℕ) → AllPairs (λ s t. s < t) (applicants past year)
applicants_rise past year = rising nat_cmp (λ s t. s < t) number_less (applicants past year) (rises nat_cmp_total (told_by (λ f. applicant year f.what) past))

pub applicants_told : (past : List Filing) (year student : ℕ) → Contains (applicants past year) student ↔ IsTold (λ f. applicant year f.what) past student
applicants_told past year student = exactly nat_cmp_total exact_unsigned (λ f. applicant year f.what) past student

-- there are no more applicants than filings
pub length-applicants : (past : List Filing) (year : ℕ) → length (applicants past year) ≤ length past
length-applicants past year =
    omega (arith, length-in_order nat_cmp (told_by (λ f. applicant year f.what) past), length-told_by (λ f. applicant year f.what) past)
