-- The derived `==` of an application is equality.
use Rattle.std.proofs.Common.{◌≡◌, ℕ, Bool, true, false, refl, sym}
use Rattle.std.specs.Coded.{le_prop}
use Rattle.std.proofs.lemmas.Bool.{true≢false}
use Rattle.aid_types.proofs.Same.{Tells, tells_pair, tells_by, same_with_fact, tells_ℕ, tells_side}
use Rattle.aid_types.specs.Ranges.{IsBetween}
use Rattle.aid_types.specs.declared.application.Application.{Application}
use Rattle.aid_types.specs.declared.application.Region.{Region}
use Rattle.aid_types.specs.declared.application.Region.TheVariants.{Contiguous, Alaska, Hawaii}
use Rattle.aid_types.specs.declared.application.Side.{Side}
use Rattle.aid_types.specs.contracts.application.ApplicationPartialEq.TheImpl.{eq-value as application_eq}
use Rattle.aid_types.specs.contracts.application.RegionPartialEq.TheImpl.{eq-value as region_eq}
use mathlib.Core.Bool.{beq}

pub tells_Bool : Tells beq
tells_Bool = record { same = same; told = told } where
  same : (x y : Bool) → beq x y ≡ true → x ≡ y
  same true true h = refl
  same false false h = refl
  same true false h = absurd (true≢false (sym h))
  same false true h = absurd (true≢false (sym h))

  told : (x : Bool) → beq x x ≡ true
  told true = refl
  told false = refl

pub tells_region : Tells region_eq.it
tells_region = record { same = same; told = told } where
  same : (x y : Region) → region_eq.it x y ≡ true → x ≡ y
  same Contiguous Contiguous h = refl
  same Alaska Alaska h = refl
  same Hawaii Hawaii h = refl
  same _ _ h = absurd (true≢false (sym h))

  told : (x : Region) → region_eq.it x x ≡ true
  told Contiguous = refl
  told Alaska = refl
  told Hawaii = refl

abbrev pub ApplicationParts : Type 0
ApplicationParts = ℕ × (ℕ × (ℕ × (ℕ × (Region × (ℕ × (Bool × (Bool × (Bool × (Bool × (Bool × (Bool × (Bool × (Bool × (Bool × (Bool × (Bool × (Side × (Bool × (Bool × (ℕ × (Side)))))))))))))))))))))

unfoldable pub application_parts : Application → ApplicationParts
application_parts a = (a.student, (a.year, (a.transaction, (a.birth_year, (a.region, (a.family, (a.married, (a.graduate, (a.bachelor, (a.veteran, (a.dependents, (a.orphan, (a.ward, (a.foster, (a.emancipated, (a.homeless, (a.student_file, (a.own, (a.parents_married, (a.parents_file, (a.parent_age, a.parents)))))))))))))))))))))

pub application_whole : (x y : Application) → application_parts x ≡ application_parts y → x ≡ y
unfolding application_parts
application_whole x y e =
    let P : ApplicationParts → Type 0 = λ b. IsBetween 1 99 b.1.1.0 × IsBetween 1900 2099 b.1.1.1.0 × IsBetween 1 30 b.1.1.1.1.1.0 × IsBetween 0 120 b.1.1.1.1.1.1.1.1.1.1.1.1.1.1.1.1.1.1.1.1.0 in
    let make : (b : ApplicationParts) → P b → Application = λ b p. record { student = b.0; year = b.1.0; transaction = b.1.1.0; birth_year = b.1.1.1.0; region = b.1.1.1.1.0; family = b.1.1.1.1.1.0; married = b.1.1.1.1.1.1.0; graduate = b.1.1.1.1.1.1.1.0; bachelor = b.1.1.1.1.1.1.1.1.0; veteran = b.1.1.1.1.1.1.1.1.1.0; dependents = b.1.1.1.1.1.1.1.1.1.1.0; orphan = b.1.1.1.1.1.1.1.1.1.1.1.0; ward = b.1.1.1.1.1.1.1.1.1.1.1.1.0; foster = b.1.1.1.1.1.1.1.1.1.1.1.1.1.0; emancipated = b.1.1.1.1.1.1.1.1.1.1.1.1.1.1.0; homeless = b.1.1.1.1.1.1.1.1.1.1.1.1.1.1.1.0; student_file = b.1.1.1.1.1.1.1.1.1.1.1.1.1.1.1.1.0; own = b.1.1.1.1.1.1.1.1.1.1.1.1.1.1.1.1.1.0; parents_married = b.1.1.1.1.1.1.1.1.1.1.1.1.1.1.1.1.1.1.0; parents_file = b.1.1.1.1.1.1.1.1.1.1.1.1.1.1.1.1.1.1.1.0; parent_age = b.1.1.1.1.1.1.1.1.1.1.1.1.1.1.1.1.1.1.1.1.0; parents = b.1.1.1.1.1.1.1.1.1.1.1.1.1.1.1.1.1.1.1.1.1; in_range = p } in
    same_with_fact P make (λ b. hlevel (le_prop)) (application_parts x) (application_parts y) x.in_range y.in_range e

pub tells_application : Tells application_eq.it
unfolding application_parts
tells_application = tells_by application_parts application_whole (tells_pair tells_ℕ (tells_pair tells_ℕ (tells_pair tells_ℕ (tells_pair tells_ℕ (tells_pair tells_region (tells_pair tells_ℕ (tells_pair tells_Bool (tells_pair tells_Bool (tells_pair tells_Bool (tells_pair tells_Bool (tells_pair tells_Bool (tells_pair tells_Bool (tells_pair tells_Bool (tells_pair tells_Bool (tells_pair tells_Bool (tells_pair tells_Bool (tells_pair tells_Bool (tells_pair tells_side (tells_pair tells_Bool (tells_pair tells_Bool (tells_pair tells_ℕ tells_side)))))))))))))))))))))
