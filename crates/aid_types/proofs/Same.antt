-- The derived `==` of these types is equality.
use Rattle.std.proofs.Common.{◌≡◌, ℕ, ℤ, Bool, true, false, ◌&&◌, ◌≤ℤ◌, List, [], ◌∷◌, length, take, refl, ap, subst, arith, sym, ◌∙◌, Decides}
use Rattle.std.specs.Prelude.{nat_eq, T}
use Rattle.std.specs.Ordering.{int_eq}
use Rattle.std.specs.Coded.{×_prop, le_prop}
use Rattle.std.proofs.Common.{rules}
use Rattle.std.proofs.lemmas.Bool.{and_parts, and_from, eqb-true, eq-eqb, true≢false}
use Rattle.std.proofs.lemmas.Bool.Decides.{Decides-int_eq}
use Rattle.std.proofs.lemmas.Cmp.{int_eq_equiv}
use Rattle.std.proofs.lemmas.Int.{ints}
use lib.Pointwise.{pointwise}
use Rattle.aid_types.proofs.FilledLemmas.{take-filled}
use Rattle.aid_types.specs.Filled.{filled}
use Rattle.aid_types.specs.Ranges.{IsAmount, IsBetween, IsSignedAmount}
use Rattle.aid_types.specs.declared.number.Key.{Key}
use Rattle.aid_types.specs.declared.application.Side.{Side}
use Rattle.aid_types.specs.contracts.number.KeyPartialEq.TheImpl.{eq-value as key_eq, ghosts as key_ghosts}
use Rattle.aid_types.specs.contracts.application.SidePartialEq.TheImpl.{eq-value as side_eq}

-- a test tells its values apart, and only those
pub record Tells {A : Type 0} (test : A → A → Bool) : Type 0 where
  pub same : (a b : A) → test a b ≡ true → a ≡ b
  pub told : (a : A) → test a a ≡ true

-- so an answer of the test decides equality
pub decides : {A : Type 0} {test : A → A → Bool} → Tells test → (a b : A) (r : Bool) → r ≡ test a b → Decides r (a ≡ b)
decides {A} {test} t a b r e = (λ h. t.same a b (sym e ∙ h), λ k. e ∙ subst (λ (x : A). test a x ≡ true) k (t.told a))

-- the test of a pair
pub tells_pair : {A B : Type 0} {p : A → A → Bool} {q : B → B → Bool} → Tells p → Tells q → Tells (λ (x y : A × B). p x.0 y.0 && q x.1 y.1)
tells_pair {A} {B} {p} {q} f g = record {
  same = λ x y h. let k = and_parts (p x.0 y.0) (q x.1 y.1) h in pair_of x y (f.same x.0 y.0 k.0) (g.same x.1 y.1 k.1);
  told = λ x. and_from (p x.0 x.0) (q x.1 x.1) (f.told x.0) (g.told x.1);
} where
  pair_of : (x y : A × B) → x.0 ≡ y.0 → x.1 ≡ y.1 → x ≡ y
  pair_of x y e k = λ i. (e i, k i)

-- the test of a type that is told by its view as another
pub tells_by : {A B : Type 0} {q : B → B → Bool} (view : A → B) → ((x y : A) → view x ≡ view y → x ≡ y) → Tells q → Tells (λ (x y : A). q (view x) (view y))
tells_by {A} {B} {q} view whole g = record {
  same = λ x y h. whole x y (g.same (view x) (view y) h);
  told = λ x. g.told (view x);
}

-- a struct is its plain fields and a fact that has one proof at most, so equal fields are equal values
pub same_with_fact : {A B : Type 0} (P : B → Type 0) (make : (b : B) → P b → A) → ((b : B) → IsProp (P b)) → (b c : B) (p : P b) (q : P c) → b ≡ c → make b p ≡ make c q
same_with_fact {A} {B} P make prop b c p q e =
    subst (λ (d : B). (r : P d) → make b p ≡ make d r) e (λ r. ap (make b) (prop b p r)) q

-- ---- numbers, and the newtypes that contracts see as numbers
pub tells_ℕ : Tells nat_eq
tells_ℕ = record { same = eqb-true; told = λ x. eq-eqb x x refl }

pub tells_ℤ : Tells int_eq
tells_ℤ = record { same = λ x y h. first_of (search (rules, Decides-int_eq), grind (arith, ints)); told = int_eq_equiv.refl }

T-prop : (b : Bool) → IsProp (T b)
T-prop true = λ x y. refl
T-prop false = λ x y. absurd x

pub le_ℤ-prop : (a b : ℤ) → IsProp (a ≤ℤ b)
le_ℤ-prop a b = hlevel (T-prop)

-- ---- structs
is_between-prop : (low high n : ℕ) → IsProp (IsBetween low high n)
is_between-prop low high n = ×_prop le_prop le_prop

unfoldable pub key_parts : Key → ℕ × ℕ
key_parts k = (k.school, k.number)

pub key_whole : (x y : Key) → key_parts x ≡ key_parts y → x ≡ y
unfolding key_parts
key_whole x y e =
    let P : ℕ × ℕ → Type 0 = λ b. IsBetween 1 999999999999 b.1 in
    let make : (b : ℕ × ℕ) → P b → Key = λ b p. record { school = b.0; number = b.1; in_range = p } in
    same_with_fact P make (λ b. is_between-prop 1 999999999999 b.1) (x.school, x.number) (y.school, y.number) x.in_range y.in_range e

pub tells_key : Tells key_eq.it
unfolding key_parts
tells_key = tells_by key_parts key_whole (tells_pair tells_ℕ tells_ℕ)

abbrev pub SideParts : Type 0
SideParts = ℤ × (ℤ × (ℤ × (ℤ × (ℤ × (ℤ × (ℤ × (ℤ × (ℤ × (ℤ × (ℤ × (ℤ × (ℤ × (ℤ × (ℤ × (ℤ)))))))))))))))

unfoldable pub side_parts : Side → SideParts
side_parts s = (s.agi, (s.ira, (s.interest, (s.ira_untaxed, (s.pension, (s.foreign, (s.grants, (s.credits, (s.work_study, (s.tax, (s.earned_first, (s.earned_second, (s.support, (s.cash, (s.investments, s.business)))))))))))))))

pub side_whole : (x y : Side) → side_parts x ≡ side_parts y → x ≡ y
unfolding side_parts
side_whole x y e =
    let P : SideParts → Type 0 = λ b. IsSignedAmount b.0 × IsAmount b.1.0 × IsAmount b.1.1.0 × IsAmount b.1.1.1.0 × IsAmount b.1.1.1.1.0 × IsAmount b.1.1.1.1.1.0 × IsAmount b.1.1.1.1.1.1.0 × IsAmount b.1.1.1.1.1.1.1.0 × IsAmount b.1.1.1.1.1.1.1.1.0 × IsSignedAmount b.1.1.1.1.1.1.1.1.1.0 × IsAmount b.1.1.1.1.1.1.1.1.1.1.0 × IsAmount b.1.1.1.1.1.1.1.1.1.1.1.0 × IsAmount b.1.1.1.1.1.1.1.1.1.1.1.1.0 × IsAmount b.1.1.1.1.1.1.1.1.1.1.1.1.1.0 × IsAmount b.1.1.1.1.1.1.1.1.1.1.1.1.1.1.0 × IsAmount b.1.1.1.1.1.1.1.1.1.1.1.1.1.1.1 in
    let make : (b : SideParts) → P b → Side = λ b p. record { agi = b.0; ira = b.1.0; interest = b.1.1.0; ira_untaxed = b.1.1.1.0; pension = b.1.1.1.1.0; foreign = b.1.1.1.1.1.0; grants = b.1.1.1.1.1.1.0; credits = b.1.1.1.1.1.1.1.0; work_study = b.1.1.1.1.1.1.1.1.0; tax = b.1.1.1.1.1.1.1.1.1.0; earned_first = b.1.1.1.1.1.1.1.1.1.1.0; earned_second = b.1.1.1.1.1.1.1.1.1.1.1.0; support = b.1.1.1.1.1.1.1.1.1.1.1.1.0; cash = b.1.1.1.1.1.1.1.1.1.1.1.1.1.0; investments = b.1.1.1.1.1.1.1.1.1.1.1.1.1.1.0; business = b.1.1.1.1.1.1.1.1.1.1.1.1.1.1.1; in_range = p } in
    same_with_fact P make (λ b. hlevel (le_prop, le_ℤ-prop)) (side_parts x) (side_parts y) x.in_range y.in_range e

pub tells_side : Tells side_eq.it
unfolding side_parts
tells_side = tells_by side_parts side_whole (tells_pair tells_ℤ (tells_pair tells_ℤ (tells_pair tells_ℤ (tells_pair tells_ℤ (tells_pair tells_ℤ (tells_pair tells_ℤ (tells_pair tells_ℤ (tells_pair tells_ℤ (tells_pair tells_ℤ (tells_pair tells_ℤ (tells_pair tells_ℤ (tells_pair tells_ℤ (tells_pair tells_ℤ (tells_pair tells_ℤ (tells_pair tells_ℤ tells_ℤ)))))))))))))))

-- what a derive above compares by
pub key_eq-Decides : (a b : Key) → Decides (key_ghosts.eq a b) (a ≡ b)
key_eq-Decides a b = decides tells_key a b (key_ghosts.eq a b) refl

-- ---- tables, which are told by their rows and how many they are
pointwise_same : {A : Type 0} {q : A → A → Bool} → Tells q → (xs ys : List A) → pointwise q xs ys ≡ true → xs ≡ ys
pointwise_same t [] [] h = refl
pointwise_same t [] (y ∷ ys) h = absurd (true≢false (sym h))
pointwise_same t (x ∷ xs) [] h = absurd (true≢false (sym h))
pointwise_same {A} {q} t (x ∷ xs) (y ∷ ys) h =
    let k = and_parts (q x y) (pointwise q xs ys) h in
    let head = t.same x y k.0 in
    let tail = pointwise_same t xs ys k.1 in
    cc

pointwise_told : {A : Type 0} {q : A → A → Bool} → Tells q → (xs : List A) → pointwise q xs xs ≡ true
pointwise_told t [] = refl
pointwise_told {A} {q} t (x ∷ xs) = and_from (q x x) (pointwise q xs xs) (t.told x) (pointwise_told t xs)

pub tells_list : {A : Type 0} {q : A → A → Bool} → Tells q → Tells (λ (xs ys : List A). pointwise q xs ys)
tells_list t = record { same = λ xs ys h. pointwise_same t xs ys h; told = λ xs. pointwise_told t xs }

pub tells_filled : {A : Type 0} {q : A → A → Bool} (room : ℕ) (fill : A) → Tells q → Tells (λ (xs ys : List A). pointwise q (filled room fill xs) (filled room fill ys) && nat_eq (length xs) (length ys))
tells_filled {A} {q} room fill t = record {
  same = λ xs ys h.
      let k = and_parts (pointwise q (filled room fill xs) (filled room fill ys)) (nat_eq (length xs) (length ys)) h in
      let len = eqb-true (length xs) (length ys) k.1 in
      sym (take-filled room fill xs)
      ∙ ap (take (length xs)) (pointwise_same t (filled room fill xs) (filled room fill ys) k.0)
      ∙ ap (λ (n : ℕ). take n (filled room fill ys)) len
      ∙ take-filled room fill ys;
  told = λ xs. and_from (pointwise q (filled room fill xs) (filled room fill xs)) (nat_eq (length xs) (length xs)) (pointwise_told t (filled room fill xs)) (eq-eqb (length xs) (length xs) refl);
}
