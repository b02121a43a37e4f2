-- A filing more leaves the links of those before it, and has its own.
use Rattle.std.proofs.Common.{◌≡◌, ℕ, zero, suc, ◌+◌, ◌<◌, refl, sym, ap, subst, ◌∙◌, arith, Bool, true, false, List, [], ◌∷◌, ◌++◌, ◌⊎◌, inl, inr, length, reverse, Some, None}
use Rattle.std.specs.List.{slice_get}
use Rattle.std.proofs.lemmas.List.{length-append, length-reverse, reverse-append}
use Rattle.std.proofs.lemmas.Option.{slice_get_within}
use Rattle.aid_filings.specs.declared.filing.EnrollFacts.{EnrollFacts}
use Rattle.aid_filings.specs.declared.filing.Filing.{Filing}
use Rattle.aid_filings.specs.declared.filing.What.{What}
use Rattle.aid_filings.specs.declared.filing.What.TheVariants.{Enroll}
use Rattle.aid_types.specs.RuleLines.{first_broken}
use Rattle.office_history.specs.Rules.{rules_of}
use Rattle.office_history.specs.Answer.{IsLegal}
use Rattle.office_history.specs.Positions.{school_at, term_at}
use Rattle.office_history.specs.Past.{first_at, first_of_two}
use Rattle.aid_types.proofs.Holds.{all_hold, lacks_holds}
use Rattle.office_history.specs.declared.rows.PlaceRow.{PlaceRow}
use Rattle.office_updates.specs.Links.{AreLinked, IsLinkable, IsPlaced, link_told}
use Rattle.office_history.specs.Names.{place_name}
use Rattle.office_updates.specs.declared.links.EnrollmentLink.{EnrollmentLink}
use Rattle.office_history.specs.declared.names.StudentPlace.{StudentPlace}

-- an element of a list with one appended is one of the list, or the appended one
appended : {A : Type 0} (xs : List A) (x y : A) (i : ℕ) → slice_get (xs ++ x ∷ []) i ≡ Some y → (slice_get xs i ≡ Some y) ⊎ ((i ≡ length xs) × (x ≡ y))
appended [] x y zero h = inr (refl, cc)
appended [] x y (suc i) h = absurd cc
appended (z ∷ xs) x y zero h = inl h
appended (z ∷ xs) x y (suc i) h = go (appended xs x y i h)
  where
    go : (slice_get xs i ≡ Some y) ⊎ ((i ≡ length xs) × (x ≡ y)) → (slice_get xs i ≡ Some y) ⊎ ((suc i ≡ length (z ∷ xs)) × (x ≡ y))
    go (inl e) = inl e
    go (inr e) = inr (let k = e.0 in omega arith, e.1)

newest_or_older : (past : List Filing) (f g : Filing) (i : ℕ) → slice_get (reverse (f ∷ past)) i ≡ Some g →
    (slice_get (reverse past) i ≡ Some g) ⊎ ((i ≡ length past) × (f ≡ g))
newest_or_older past f g i h = go (appended (reverse past) f g i (ap (λ (l : List Filing). slice_get l i) (sym (reverse-append (f ∷ []) past)) ∙ h))
  where
    go : (slice_get (reverse past) i ≡ Some g) ⊎ ((i ≡ length (reverse past)) × (f ≡ g)) → (slice_get (reverse past) i ≡ Some g) ⊎ ((i ≡ length past) × (f ≡ g))
    go (inl e) = inl e
    go (inr e) = inr (let k = e.0 in omega (arith, length-reverse past), e.1)

-- a position that is told stays
first_stays : (p : Filing → Bool) (past : List Filing) (f : Filing) → 0 < first_at p past → first_at p (f ∷ past) ≡ first_at p past
first_stays p past f h = go (p f) (first_at p past) h
  where
    go : (b : Bool) (n : ℕ) → 0 < n → first_of_two b n (length past + 1) ≡ n
    go false n h = refl
    go true zero h = absurd (omega arith)
    go true (suc n) h = refl

-- an enrollment's school and term are on file
pub record IsOnFile (past : List Filing) (school : ℕ) (e : EnrollFacts) : Type 0 where
  pub school_stands : 0 < school_at past school
  pub term_stands : 0 < term_at past school e.year e.term

on_file_stays : (past : List Filing) (f : Filing) (school : ℕ) (e : EnrollFacts) → IsOnFile past school e → IsOnFile (f ∷ past) school e
on_file_stays past f school e s =
    let a = s.school_stands in
    let b = s.term_stands in
    let same_school : school_at (f ∷ past) school ≡ school_at past school = first_stays _ past f a in
    let same_term : term_at (f ∷ past) school e.year e.term ≡ term_at past school e.year e.term = first_stays _ past f b in
    record { school_stands = omega arith; term_stands = omega arith }

pub enrolls : (past : List Filing) (f : Filing) (e : EnrollFacts) → IsLegal (f ∷ past) → f.what ≡ Enroll e → IsOnFile past f.key.school e
enrolls past f e legal is =
    let sound = subst (λ (w : What). first_broken (rules_of past f.key w) ≡ None) is legal.2 in
    let k = all_hold (rules_of past f.key (Enroll e)) sound in
    record {
      school_stands = lacks_holds 12 (school_at past f.key.school) f.key.school 0 k.1.0;
      term_stands = lacks_holds 30 (term_at past f.key.school e.year e.term) e.term 0 k.1.1.0;
    }

pub enrolled_on_file : (past : List Filing) → IsLegal past → (i : ℕ) (g : Filing) (e : EnrollFacts) → slice_get (reverse past) i ≡ Some g → g.what ≡ Enroll e →
    IsOnFile past g.key.school e
enrolled_on_file [] legal i g e at is = absurd cc
enrolled_on_file (f ∷ past) legal i g e at is = go (newest_or_older past f g i at) (λ h. enrolled_on_file past legal.0 i g e h is)
  where
    go : (slice_get (reverse past) i ≡ Some g) ⊎ ((i ≡ length past) × (f ≡ g)) → (slice_get (reverse past) i ≡ Some g → IsOnFile past g.key.school e) →
        IsOnFile (f ∷ past) g.key.school e
    go (inl h) older = on_file_stays past f g.key.school e (older h)
    go (inr h) older =
        on_file_stays past f g.key.school e
        (subst (λ (x : Filing). IsOnFile past x.key.school e) h.1 (enrolls past f e legal (ap (λ (x : Filing). x.what) h.1 ∙ is)))

-- a place that is told stays
placed_stays : (past : List Filing) (old new : List (StudentPlace × PlaceRow)) (f g : Filing) (e : EnrollFacts) (l : EnrollmentLink) → IsOnFile past g.key.school e →
    ((i : ℕ) (row : StudentPlace × PlaceRow) → slice_get old i ≡ Some row → (v : PlaceRow) × (slice_get new i ≡ Some (row.0, v))) →
    IsPlaced past old g e l → IsPlaced (f ∷ past) new g e l
placed_stays past old new f g e l s stays is =
    let kept = stays l.slot (place_name g.key.school e, is.row) is.slot in
    record {
      row = kept.0;
      slot = kept.1;
      school = is.school ∙ sym (first_stays _ past f s.school_stands);
      term = is.term ∙ sym (first_stays _ past f s.term_stands);
    }

placed_now : (past : List Filing) (new : List (StudentPlace × PlaceRow)) (f g : Filing) (e : EnrollFacts) (l : EnrollmentLink) → IsOnFile past g.key.school e →
    IsPlaced past new g e l → IsPlaced (f ∷ past) new g e l
placed_now past new f g e l s is = record {
  row = is.row;
  slot = is.slot;
  school = is.school ∙ sym (first_stays _ past f s.school_stands);
  term = is.term ∙ sym (first_stays _ past f s.term_stands);
}

module _ (past : List Filing) (old new : List (StudentPlace × PlaceRow)) (f : Filing) (newest slot school term : ℕ)
    (can : IsLinkable past old new f newest slot school term) where
  own_place : (e : EnrollFacts) → f.what ≡ Enroll e → IsPlaced (f ∷ past) new f e (link_told f.what slot school term)
  own_place e is =
      subst (λ (w : What). IsPlaced (f ∷ past) new f e (link_told w slot school term)) (sym is)
      (placed_now past new f f e (link_told (Enroll e) slot school term) (enrolls past f e can.legal is) (can.placed e is))

  place : (befores : List ℕ) (links : List EnrollmentLink) → AreLinked past old befores links → (i : ℕ) (g : Filing) (e : EnrollFacts) (l : EnrollmentLink) → g.what ≡ Enroll e →
      (slice_get (reverse past) i ≡ Some g) ⊎ ((i ≡ length past) × (f ≡ g)) →
      (slice_get links i ≡ Some l) ⊎ ((i ≡ length links) × (link_told f.what slot school term ≡ l)) → IsPlaced (f ∷ past) new g e l
  place befores links are i g e l is (inl at) (inl linked) =
      placed_stays past old new f g e l (enrolled_on_file past can.legal.0 i g e at is) can.stays (are.places i g e l at is linked)
  place befores links are i g e l is (inl at) (inr w) =
      let inside = slice_get_within (reverse past) i g at in
      let k = w.0 in
      absurd (omega (arith, length-reverse past, are.count))
  place befores links are i g e l is (inr w) (inl linked) =
      let inside = slice_get_within links i l linked in
      let k = w.0 in
      absurd (omega (arith, are.count))
  place befores links are i g e l is (inr v) (inr w) =
      subst (λ (x : EnrollmentLink). IsPlaced (f ∷ past) new g e x) w.1
      (subst (λ (x : Filing). IsPlaced (f ∷ past) new x e (link_told f.what slot school term)) v.1
      (own_place e (ap (λ (x : Filing). x.what) v.1 ∙ is)))

  pub linked_more : (befores : List ℕ) (links : List EnrollmentLink) → AreLinked past old befores links →
      AreLinked (f ∷ past) new (befores ++ newest ∷ []) (links ++ link_told f.what slot school term ∷ [])
  linked_more befores links are = record {
    befores_are = λ i. are.befores_are i ++ can.before i ∷ [];
    count = omega (arith, length-append links (link_told f.what slot school term ∷ []), are.count);
    places = λ i g e l at is linked.
        place befores links are i g e l is (newest_or_older past f g i at) (appended links (link_told f.what slot school term) l i linked);
  }
