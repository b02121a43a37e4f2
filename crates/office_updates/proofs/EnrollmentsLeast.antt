-- What a walk over filings keeps is the least code, or the first term, of those that pass.
use Rattle.std.proofs.Common.{◌≡◌, ℕ, zero, suc, ◌<◌, ◌≤◌, refl, sym, ap, subst, ◌∙◌, arith, cond, Bool, true, false, ◌&&◌, ◌||◌, ◌⊎◌, inl, inr, List, [], ◌∷◌, Option, Some, None}
use Rattle.std.specs.Prelude.{◌==◌, min, nat_lt}
use Rattle.std.specs.List.{Contains}
use Rattle.std.proofs.lemmas.Bool.Decides.{nat_tests}
use Rattle.aid_filings.specs.declared.filing.Filing.{Filing}
use Rattle.office_history.specs.Positions.{lesser_code}
use Rattle.office_history.proofs.Among.{among_cases, among_head, among_rest}
use Rattle.office_updates.specs.Enrollments.{comes_before, earlier_over, first_over, least_school}
use Rattle.office_updates.specs.declared.enrollments.Over.{Over}

-- a code that is none, and one at most this
abbrev pub IsAtMost : ℕ → ℕ → Type 0
IsAtMost code n = (0 < n) × (n ≤ code)

-- a code more leaves the least at most what it was, and at most itself
kept_code : (b : Bool) (code least bound : ℕ) → 0 < code → IsAtMost bound least → IsAtMost bound (lesser_code b code least)
kept_code false code least bound pos h = h
kept_code true code zero bound pos h = absurd (omega (arith, h.0))
kept_code true code (suc n) bound pos h = let most = h.1 in (omega arith, omega arith)

own_code : (code least : ℕ) → 0 < code → IsAtMost code (lesser_code true code least)
own_code code zero pos = (pos, omega arith)
own_code code (suc n) pos = (omega arith, omega arith)

either_code : (b : Bool) (code least : ℕ) → (lesser_code b code least ≡ least) ⊎ ((b ≡ true) × (lesser_code b code least ≡ code))
either_code false code least = inl refl
either_code true code zero = inr (refl, refl)
either_code true code (suc n) = go (nat_lt code (suc n)) refl
  where
    go : (b : Bool) → nat_lt code (suc n) ≡ b → (min code (suc n) ≡ suc n) ⊎ ((true ≡ true) × (min code (suc n) ≡ code))
    go true e = inr (refl, grind (arith, nat_tests))
    go false e = inl (grind (arith, nat_tests))

module _ (p : Filing → Bool) where
  -- each filing that passes has a code above 0
  abbrev pub AreCoded : List Filing → Type 0
  AreCoded fs = (f : Filing) → Contains fs f → p f ≡ true → 0 < f.key.school

  older_coded : (f : Filing) (fs : List Filing) → AreCoded (f ∷ fs) → AreCoded fs
  older_coded f fs h g there passes = h g (among_rest f fs g there) passes

  pub code_stays : (fs : List Filing) (least bound : ℕ) → AreCoded fs → IsAtMost bound least → IsAtMost bound (least_school p fs least)
  code_stays [] least bound coded h = h
  code_stays (f ∷ fs) least bound coded h =
      code_stays fs (lesser_code (p f) f.key.school least) bound (older_coded f fs coded) (go (p f) refl)
    where
      go : (b : Bool) → p f ≡ b → IsAtMost bound (lesser_code b f.key.school least)
      go true e = kept_code true f.key.school least bound (coded f (among_head f fs) e) h
      go false e = h

  -- it is at most the code of each that passes
  pub code_below : (fs : List Filing) (least : ℕ) → AreCoded fs → (f : Filing) → Contains fs f → p f ≡ true → IsAtMost f.key.school (least_school p fs least)
  code_below [] least coded f there passes = absurd (omega (arith, there.1))
  code_below (g ∷ fs) least coded f there passes =
      go (λ k. code_below fs (lesser_code (p g) g.key.school least) (older_coded g fs coded) f k passes) (among_cases g fs f there)
    where
      own : p g ≡ true → IsAtMost g.key.school (lesser_code (p g) g.key.school least)
      own e = subst (λ (b : Bool). IsAtMost g.key.school (lesser_code b g.key.school least)) (sym e) (own_code g.key.school least (coded g (among_head g fs) e))

      go : (Contains fs f → IsAtMost f.key.school (least_school p fs (lesser_code (p g) g.key.school least))) → (g ≡ f) ⊎ Contains fs f →
          IsAtMost f.key.school (least_school p fs (lesser_code (p g) g.key.school least))
      go older (inl same) =
          let passes_too : p g ≡ true = ap p same ∙ passes in
          subst (λ (x : Filing). IsAtMost x.key.school (least_school p fs (lesser_code (p g) g.key.school least))) same
          (code_stays fs (lesser_code (p g) g.key.school least) g.key.school (older_coded g fs coded) (own passes_too))
      go older (inr rest) = older rest

  -- and the code of one of them, or what it was at first
  abbrev pub CodeFound : List Filing → ℕ → Type 0
  CodeFound fs code = (f : Filing) × Contains fs f × (p f ≡ true) × (f.key.school ≡ code)

  pub code_found : (fs : List Filing) (least : ℕ) → (least_school p fs least ≡ least) ⊎ CodeFound fs (least_school p fs least)
  code_found [] least = inl refl
  code_found (f ∷ fs) least = go (code_found fs (lesser_code (p f) f.key.school least)) (either_code (p f) f.key.school least)
    where
      go : (least_school p fs (lesser_code (p f) f.key.school least) ≡ lesser_code (p f) f.key.school least) ⊎ CodeFound fs (least_school p fs (lesser_code (p f) f.key.school least)) →
          (lesser_code (p f) f.key.school least ≡ least) ⊎ ((p f ≡ true) × (lesser_code (p f) f.key.school least ≡ f.key.school)) →
          (least_school p fs (lesser_code (p f) f.key.school least) ≡ least) ⊎ CodeFound (f ∷ fs) (least_school p fs (lesser_code (p f) f.key.school least))
      go (inl e) (inl d) = inl (e ∙ d)
      go (inl e) (inr d) = inr (f, among_head f fs, d.0, sym (e ∙ d.1))
      go (inr w) d = inr (w.0, among_rest f fs w.0 w.1, w.2, w.3)

-- a term doesn't come before the one found
abbrev pub IsNotBefore : Over → Option Over → Type 0
IsNotBefore a None = ⊥
IsNotBefore a (Some b) = comes_before a b ≡ false

not_itself : (a : Over) → comes_before a a ≡ false
not_itself a = go a.school a.term
  where
    go : (s n : ℕ) → (nat_lt s s || (s == s && nat_lt n n)) ≡ false
    go s n = grind (arith, nat_tests)

passed_on : (a b c : Over) → comes_before a b ≡ false → comes_before c b ≡ true → comes_before a c ≡ false
passed_on a b c h k = go a.school a.term b.school b.term c.school c.term h k
  where
    go : (s m r n t l : ℕ) → (nat_lt s r || (s == r && nat_lt m n)) ≡ false → (nat_lt t r || (t == r && nat_lt l n)) ≡ true →
        (nat_lt s t || (s == t && nat_lt m l)) ≡ false
    go s m r n t l h k = grind (arith, nat_tests)

kept_first : (a : Over) (new first : Option Over) → IsNotBefore a first → IsNotBefore a (earlier_over new first)
kept_first a None first h = h
kept_first a (Some c) None h = absurd h
kept_first a (Some c) (Some b) h = go (comes_before c b) refl
  where
    go : (t : Bool) → comes_before c b ≡ t → IsNotBefore a (cond t (Some c) (Some b))
    go true e = passed_on a b c h e
    go false e = h

own_first : (a : Over) (first : Option Over) → IsNotBefore a (earlier_over (Some a) first)
own_first a None = not_itself a
own_first a (Some b) = go (comes_before a b) refl
  where
    go : (t : Bool) → comes_before a b ≡ t → IsNotBefore a (cond t (Some a) (Some b))
    go true e = not_itself a
    go false e = e

either_first : (new first : Option Over) → (earlier_over new first ≡ first) ⊎ (earlier_over new first ≡ new)
either_first None first = inl refl
either_first (Some a) None = inr refl
either_first (Some a) (Some b) = go (comes_before a b)
  where
    go : (t : Bool) → (cond t (Some a) (Some b) ≡ Some b) ⊎ (cond t (Some a) (Some b) ≡ Some a)
    go true = inr refl
    go false = inl refl

module _ (operation : Filing → Option Over) where
  pub first_stays : (fs : List Filing) (first : Option Over) (a : Over) → IsNotBefore a first → IsNotBefore a (first_over operation fs first)
  first_stays [] first a h = h
  first_stays (f ∷ fs) first a h = first_stays fs (earlier_over (operation f) first) a (kept_first a (operation f) first h)

  -- none that a filing tells comes before it
  pub first_below : (fs : List Filing) (first : Option Over) (f : Filing) (a : Over) → Contains fs f → operation f ≡ Some a → IsNotBefore a (first_over operation fs first)
  first_below [] first f a there told = absurd (omega (arith, there.1))
  first_below (g ∷ fs) first f a there told =
      go (λ k. first_below fs (earlier_over (operation g) first) f a k told) (among_cases g fs f there)
    where
      go : (Contains fs f → IsNotBefore a (first_over operation fs (earlier_over (operation g) first))) → (g ≡ f) ⊎ Contains fs f →
          IsNotBefore a (first_over operation fs (earlier_over (operation g) first))
      go older (inl same) =
          first_stays fs (earlier_over (operation g) first) a
          (subst (λ (o : Option Over). IsNotBefore a (earlier_over o first)) (sym (ap operation same ∙ told)) (own_first a first))
      go older (inr rest) = older rest

  -- and one of them tells it, or it was there at first
  abbrev pub FirstFound : List Filing → Option Over → Type 0
  FirstFound fs found = (f : Filing) × Contains fs f × (operation f ≡ found)

  pub first_found : (fs : List Filing) (first : Option Over) → (first_over operation fs first ≡ first) ⊎ FirstFound fs (first_over operation fs first)
  first_found [] first = inl refl
  first_found (f ∷ fs) first = go (first_found fs (earlier_over (operation f) first)) (either_first (operation f) first)
    where
      go : (first_over operation fs (earlier_over (operation f) first) ≡ earlier_over (operation f) first) ⊎ FirstFound fs (first_over operation fs (earlier_over (operation f) first)) →
          (earlier_over (operation f) first ≡ first) ⊎ (earlier_over (operation f) first ≡ operation f) →
          (first_over operation fs (earlier_over (operation f) first) ≡ first) ⊎ FirstFound (f ∷ fs) (first_over operation fs (earlier_over (operation f) first))
      go (inl e) (inl d) = inl (e ∙ d)
      go (inl e) (inr d) = inr (f, among_head f fs, sym (e ∙ d))
      go (inr w) d = inr (w.0, among_rest f fs w.0 w.1, w.2)
