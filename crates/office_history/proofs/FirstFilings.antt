-- A position that is told is that of the first filing that passes.
use Rattle.std.proofs.Common.{◌≡◌, ℕ, zero, suc, ◌+◌, ◌<◌, refl, ◌∙◌, subst, arith, Bool, true, false, List, [], ◌∷◌, length, reverse, Option, Some, None, get_or, ltb-true, ltb-false}
use Rattle.std.specs.Prelude.{nat_lt, slice_get}
use Rattle.std.specs.List.{Contains, position}
use Rattle.std.proofs.lemmas.List.Elements.{All-nil, All-cons, All-head, All-tail, All-contains, Contains-get_or}
use Rattle.std.proofs.lemmas.List.Quantifiers.{position-Some}
use Rattle.std.proofs.lemmas.Option.{slice_get-get_or, slice_get_within, get_or_from_slice_get}
use Rattle.aid_filings.specs.declared.filing.Filing.{Filing}
use Rattle.office_history.specs.Past.{first_at}
use Rattle.office_history.specs.Places.{place_of}
use Rattle.office_history.specs.Least.{NonePasses, IsFirst}
use Rattle.office_history.proofs.Among.{among_reverse}
use Rattle.office_history.proofs.Nets.{none_before}
use Rattle.office_history.proofs.Oldest.{found_first}

-- what the search finds is the first filing that passes
is_first : (p : Filing → Bool) (h : List Filing) (i : ℕ) → position p h ≡ Some i → IsFirst p h i
is_first p [] i e = absurd (cc)
is_first p (f ∷ h) i e =
    let k = position-Some p (f ∷ h) i f e in
    record {
      filing = get_or (f ∷ h) i f;
      here = slice_get-get_or (f ∷ h) i f k.0;
      accepted = k.1;
      first = λ j g lt there.
          subst (λ (x : Filing). p x ≡ false) (get_or_from_slice_get (f ∷ h) j g f there) (k.2 j lt);
    }

-- a place is one past an index, or there is none
by_place : (p : Filing → Bool) (h : List Filing) (o : Option ℕ) → position p h ≡ o → (i : ℕ) → place_of o ≡ i + 1 → IsFirst p h i
by_place p h None e i k = absurd (omega arith)
by_place p h (Some j) e i k =
    let same : j ≡ i = omega arith in
    subst (IsFirst p h) same (is_first p h j e)

pub first_found : (p : Filing → Bool) (h : List Filing) (i : ℕ) → first_at p (reverse h) ≡ i + 1 → IsFirst p h i
first_found p h i e = by_place p h (position p h) refl i (found_first p h ∙ e)

-- two indexes at which a first filing stands are one
no_other : (p : Filing → Bool) (h : List Filing) (i j : ℕ) → IsFirst p h i → IsFirst p h j → i < j → ⊥
no_other p h i j a b lt =
    let e : p a.filing ≡ false = b.first i a.filing lt a.here in
    let d = a.accepted in cc

one_first : (p : Filing → Bool) (h : List Filing) (i j : ℕ) → IsFirst p h i → IsFirst p h j → i ≡ j
one_first p h i j a b = go (nat_lt i j) (nat_lt j i) refl refl
  where
    go : (x y : Bool) → nat_lt i j ≡ x → nat_lt j i ≡ y → i ≡ j
    go true y e d = absurd (no_other p h i j a b (ltb-true i j e))
    go false true e d = absurd (no_other p h j i b a (ltb-true j i d))
    go false false e d = let m = ltb-false i j e in let n = ltb-false j i d in omega arith

-- none is found only where none passes
pub skipped : (p : Filing → Bool) (past : List Filing) → first_at p past ≡ 0 → NonePasses p past
skipped p [] h = All-nil (λ f. p f ≡ false)
skipped p (f ∷ past) h =
    let k = none_before (first_at p past) (p f) (length past) h in
    All-cons (λ f. p f ≡ false) f past k.1 (skipped p past k.0)

pub none_first : (p : Filing → Bool) (past : List Filing) → NonePasses p past → first_at p past ≡ 0
none_first p [] h = refl
none_first p (f ∷ past) h =
    let e : p f ≡ false = All-head (λ f. p f ≡ false) f past h in
    rw (e, none_first p past (All-tail (λ f. p f ≡ false) f past h)) refl

-- the place of the first filing that passes is found
pub found_at : (p : Filing → Bool) (h : List Filing) (i : ℕ) → IsFirst p h i → first_at p (reverse h) ≡ i + 1
found_at p h i k = go (first_at p (reverse h)) refl
  where
    stands : (h : List Filing) (i : ℕ) (f : Filing) → slice_get h i ≡ Some f → Contains h f
    stands h i f e =
        subst (Contains h) (get_or_from_slice_get h i f f e) (Contains-get_or h i f (slice_get_within h i f e))

    go : (n : ℕ) → first_at p (reverse h) ≡ n → n ≡ i + 1
    go zero e =
        let f = skipped p (reverse h) e in
        let d : p k.filing ≡ false = All-contains (λ f. p f ≡ false) (reverse h) k.filing f (among_reverse h k.filing (stands h i k.filing k.here)) in
        let a : p k.filing ≡ true = k.accepted in absurd (cc)
    go (suc n) e =
        let same : n ≡ i = one_first p h n i (first_found p h n (e ∙ omega arith)) k in omega arith
