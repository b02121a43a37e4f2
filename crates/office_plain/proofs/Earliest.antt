-- The earliest filing that answers a question.
use Rattle.std.proofs.Common.{◌≡◌, ℕ, zero, suc, ◌+◌, ◌<◌, refl, sym, ap, ◌∙◌, arith, Bool, true, false, List, [], ◌∷◌, ◌++◌, length, reverse, take, drop, get_or, Option, Some, None, ◌⊎◌, inl, inr, add-one}
use Rattle.std.specs.Prelude.{is_some, option_and_then}
use Rattle.std.proofs.lemmas.List.{length-reverse, length-take-le}
use Rattle.aid_filings.specs.declared.filing.Filing.{Filing}
use Rattle.office_history.specs.Past.{earlier, earliest, first_at, first_of_two, given}
use Rattle.office_history.specs.Rows.{filing_in}
use Rattle.office_history.proofs.InForce.{newest, older}
use Rattle.office_history.proofs.Oldest.{reverse-at}

module _ {A : Type 0} (told : Filing → Option A) where
  -- a filing tells where none before it does, and whatever comes after it
  found : (newer past : List Filing) (f : Filing) (a : A) → first_at (λ g. is_some (told g)) past ≡ 0 → earliest told past ≡ None → told f ≡ Some a →
      (first_at (λ g. is_some (told g)) (newer ++ f ∷ past) ≡ length past + 1) × (earliest told (newer ++ f ∷ past) ≡ Some a)
  found [] past f a none nothing here = (
    ap (λ (o : Option A). first_of_two (is_some o) (first_at (λ g. is_some (told g)) past) (length past + 1)) here
        ∙ ap (λ (n : ℕ). first_of_two true n (length past + 1)) none,
    (λ i. earlier (here i) (nothing i)),
  )
  found (g ∷ newer) past f a none nothing here = stays (told g) _ _ (found newer past f a none nothing here)
    where
      stays : (o : Option A) (n : ℕ) (e : Option A) → (n ≡ length past + 1) × (e ≡ Some a) →
          (first_of_two (is_some o) n (length (newer ++ f ∷ past) + 1) ≡ length past + 1) × (earlier o e ≡ Some a)
      stays o zero e h = absurd (omega (arith, h.0))
      stays None (suc n) e h = h
      stays (Some b) (suc n) None h = absurd (cc)
      stays (Some b) (suc n) (Some c) h = h

  -- the same of a list that is read from its oldest filing on
  pub found_at : (h : List Filing) (i : ℕ) (f : Filing) (a : A) → i < length h → f ≡ get_or h i f →
      first_at (λ g. is_some (told g)) (reverse (take i h)) ≡ 0 → earliest told (reverse (take i h)) ≡ None → told f ≡ Some a →
      (i + 1 ≡ first_at (λ g. is_some (told g)) (reverse h)) × (Some a ≡ earliest told (reverse h))
  found_at h i f a lt at none nothing here =
      let past = reverse (take i h) in
      let split : reverse h ≡ reverse (drop (suc i) h) ++ f ∷ past = reverse-at h i f lt ∙ ap (λ (g : Filing). reverse (drop (suc i) h) ++ g ∷ past) (sym at) in
      let k = found (reverse (drop (suc i) h)) past f a none nothing here in
      let size : i + 1 ≡ length past + 1 = omega (arith, length-reverse (take i h), length-take-le i h (omega arith)) in
      (size ∙ sym k.0 ∙ ap (first_at (λ g. is_some (told g))) (sym split), sym k.1 ∙ ap (earliest told) (sym split))

  -- the filing at that position tells it, or there is none
  abbrev Stands : List Filing → ℕ → Option A → Type 0
  Stands past n o = ((n ≡ 0) × (o ≡ None))
      ⊎ ((m : ℕ) × (g : Filing) × (a : A) × (n ≡ suc m) × (filing_in past (suc m) ≡ Some g) × (told g ≡ Some a) × (o ≡ Some a))

  stands : (past : List Filing) → Stands past (first_at (λ f. is_some (told f)) past) (earliest told past)
  stands [] = inl (refl, refl)
  stands (f ∷ past) = go (told f) refl _ _ (stands past)
    where
      go : (o : Option A) → told f ≡ o → (n : ℕ) (e : Option A) → Stands past n e → Stands (f ∷ past) (first_of_two (is_some o) n (length past + 1)) (earlier o e)
      go None here n e (inl s) = inl s
      go None here n e (inr s) = inr (s.0, s.1, s.2, s.3, older past f s.1 s.0 s.4, s.5, s.6)
      go (Some a) here zero None s = inr (length past, f, a, add-one (length past), newest past f (length past) (add-one (length past)), here, refl)
      go (Some a) here zero (Some b) (inl s) = absurd (cc (s.1))
      go (Some a) here zero (Some b) (inr s) = absurd (omega (arith, s.3))
      go (Some a) here (suc n) e (inl s) = absurd (omega (arith, s.0))
      go (Some a) here (suc n) None (inr s) = absurd (cc (s.6))
      go (Some a) here (suc n) (Some b) (inr s) = inr (s.0, s.1, s.2, s.3, older past f s.1 s.0 s.4, s.5, s.6)

  pub told_there : (past : List Filing) → option_and_then told (filing_in past (first_at (λ f. is_some (told f)) past)) ≡ earliest told past
  told_there past = go _ _ (stands past)
    where
      go : (n : ℕ) (o : Option A) → Stands past n o → option_and_then told (filing_in past n) ≡ o
      go n o (inl s) = ap (λ (n : ℕ). option_and_then told (filing_in past n)) s.0 ∙ sym s.1
      go n o (inr s) = ap (λ (n : ℕ). option_and_then told (filing_in past n)) s.3 ∙ ap (option_and_then told) s.4 ∙ s.5 ∙ sym s.6

-- a question that is answered by yes or no
pub asked : (p : Filing → Bool) (past : List Filing) → first_at (λ f. is_some (given {A = Unit {0}} (p f) tt)) past ≡ first_at p past
asked p [] = refl
asked p (f ∷ past) = go (p f) _ _ (asked p past)
  where
    go : (b : Bool) (m n : ℕ) → m ≡ n → first_of_two (is_some (given {A = Unit {0}} b tt)) m (length past + 1) ≡ first_of_two b n (length past + 1)
    go true m n e = ap (λ (n : ℕ). first_of_two true n (length past + 1)) e
    go false m n e = e
