-- The candidates among the first filings.
use Rattle.std.proofs.Common.{◌≡◌, ℕ, ◌+◌, ◌<◌, ◌≤◌, sym, subst, ap, ◌∙◌, arith, true, ◌⊎◌, inl, inr, List, [], ◌∷◌, ◌++◌, length, reverse, get_or, Some, length-append, eqb-true}
use Rattle.std.specs.Prelude.{◌==◌, pos, neg_ℤ, ℤ}
use Rattle.std.specs.Coded.{le_prop}
use Rattle.aid_types.proofs.Same.{le_ℤ-prop, same_with_fact}
use Rattle.law_funds.specs.Answers.{IsAsked}
use Rattle.std.specs.List.{All, Any, Contains}
use Rattle.std.proofs.lemmas.Bool.{and_parts}
use Rattle.std.proofs.lemmas.List.{get_or_default}
use Rattle.std.proofs.lemmas.List.Elements.{All-nil, All-push, All-contains, Contains-append_left, Contains-push}
use Rattle.aid_filings.specs.declared.filing.Filing.{Filing}
use Rattle.law_terms.specs.Terms.{intensity_of}
use Rattle.law_funds.specs.Order.{IsInOrder}
use Rattle.law_funds.specs.declared.candidate.Candidate.{Candidate}
use Rattle.office_history.specs.Answer.{standing_of}
use Rattle.office_history.specs.Positions.{full_of}
use Rattle.office_history.specs.Past.{credits, the_school}
use Rattle.office_rounds.specs.Candidates.{AreCandidates, IsCandidate, is_alike, need_of, originated}
use Rattle.office_rounds.specs.declared.request.RoundRequest.{RoundRequest}
use Rattle.office_rounds.proofs.Originations.{origination_of_cost, some_same}

-- candidates with equal numbers are equal
asked-prop : (need : ℕ) (sai : ℤ) (intensity : ℕ) → IsProp (IsAsked need sai intensity)
asked-prop need sai intensity x y = λ i. record {
  need_fits = le_prop x.need_fits y.need_fits i;
  index_fits = (le_ℤ-prop (neg_ℤ (pos 1500)) sai x.index_fits.0 y.index_fits.0 i, le_ℤ-prop sai (pos 999999) x.index_fits.1 y.index_fits.1 i);
  intensity_fits = (le_prop x.intensity_fits.0 y.intensity_fits.0 i, le_prop x.intensity_fits.1 y.intensity_fits.1 i);
}

whole : (c d : Candidate) → ◌≡◌ {A = ℕ × (ℤ × (ℕ × ℕ))} (c.student, (c.sai, (c.need, c.intensity))) (d.student, (d.sai, (d.need, d.intensity))) → c ≡ d
whole c d e =
    let P : ℕ × (ℤ × (ℕ × ℕ)) → Type 0 = λ b. IsAsked b.1.1.0 b.1.0 b.1.1.1 in
    let make : (b : ℕ × (ℤ × (ℕ × ℕ))) → P b → Candidate = λ b p. record { student = b.0; sai = b.1.0; need = b.1.1.0; intensity = b.1.1.1; in_range = p } in
    same_with_fact P make (λ b. asked-prop b.1.1.0 b.1.0 b.1.1.1) (c.student, (c.sai, (c.need, c.intensity))) (d.student, (d.sai, (d.need, d.intensity))) c.in_range d.in_range e

-- a student has one candidate at most
pub same_candidate : (past : List Filing) (r : RoundRequest) (c d : Candidate) → IsCandidate past r c → IsCandidate past r d → c.student ≡ d.student → c ≡ d
same_candidate past r c d a b same =
    let sai : c.sai ≡ d.sai = a.sai ∙ ap (λ s. (standing_of past s r.year).sai) same ∙ sym b.sai in
    let need : c.need ≡ d.need = a.need ∙ ap (need_of past r) same ∙ sym b.need in
    let intensity : c.intensity ≡ d.intensity =
    a.intensity ∙ ap (λ s. intensity_of (credits past r.school s r.year r.term) (full_of (the_school past r.school))) same ∙ sym b.intensity in
    whole c d (λ i. (same i, (sai i, (need i, intensity i))))

-- of the first filings: each of the list is a candidate, and each candidate who was originated by one of them is in the list
pub record IsGathered (past : List Filing) (r : RoundRequest) (h : List Filing) (count : ℕ) (cs : List Candidate) : Type 0 where
  pub sound : All (IsCandidate past r) cs
  pub complete : (i : ℕ) (f : Filing) (c : Candidate) → i < count → i < length h → f ≡ get_or h i f → originated r f.key f.what ≡ Some c.student → IsCandidate past r c → Contains cs c
  pub few : length cs ≤ count

pub gather_start : (past : List Filing) (r : RoundRequest) (h : List Filing) (cs : List Candidate) → cs ≡ [] → IsGathered past r h 0 cs
gather_start past r h cs none = record {
  sound = subst (All (IsCandidate past r)) (sym none) (All-nil (IsCandidate past r));
  complete = λ i f c lt. absurd (omega arith);
  few = omega (arith, ap length none);
}

-- an index below one more is below, or is the last one
last_or_before : (i count : ℕ) → i < count + 1 → (i ≡ count) ⊎ (i < count)
last_or_before i count lt = grind arith

-- one filing stands at an index
one_filing : (h : List Filing) (i j : ℕ) (e f : Filing) → i < length h → e ≡ get_or h i e → f ≡ get_or h j f → i ≡ j → e ≡ f
one_filing h i j e f inside here there same =
    here ∙ get_or_default h i e f inside ∙ ap (λ (k : ℕ). get_or h k f) same ∙ sym there

-- a filing that brings no candidate
pub gather_none : (past : List Filing) (r : RoundRequest) (h : List Filing) (count : ℕ) (cs after : List Candidate) (f : Filing) → f ≡ get_or h count f
    → ((c : Candidate) → originated r f.key f.what ≡ Some c.student → IsCandidate past r c → ⊥) → after ≡ cs → IsGathered past r h count cs → IsGathered past r h (count + 1) after
gather_none past r h count cs after f at never same g = subst (IsGathered past r h (count + 1)) (sym same) (record {
  sound = g.sound;
  complete = λ i e c lt inside here is good. go i e c inside here is good (last_or_before i count lt);
  few = omega (arith, g.few);
})
  where
    go : (i : ℕ) (e : Filing) (c : Candidate) → i < length h → e ≡ get_or h i e → originated r e.key e.what ≡ Some c.student → IsCandidate past r c → (i ≡ count) ⊎ (i < count) → Contains cs c
    go i e c inside here is good (inl last) = absurd (never c (subst (λ (x : Filing). originated r x.key x.what ≡ Some c.student) (one_filing h i count e f inside here at last) is) good)
    go i e c inside here is good (inr before) = g.complete i e c before inside here is good

-- a candidate more
pub gather_one : (past : List Filing) (r : RoundRequest) (h : List Filing) (count : ℕ) (cs more : List Candidate) (f : Filing) (c : Candidate) → f ≡ get_or h count f
    → originated r f.key f.what ≡ Some c.student → IsCandidate past r c → more ≡ cs ++ c ∷ [] → IsGathered past r h count cs → IsGathered past r h (count + 1) more
gather_one past r h count cs more f c at is good one g = record {
  sound = subst (All (IsCandidate past r)) (sym one) (All-push (IsCandidate past r) cs c g.sound good);
  complete = λ i e d lt inside here told fits. subst (λ (l : List Candidate). Contains l d) (sym one) (go i e d inside here told fits (last_or_before i count lt));
  few = omega (arith, g.few, ap length one, length-append cs (c ∷ []));
}
  where
    go : (i : ℕ) (e : Filing) (d : Candidate) → i < length h → e ≡ get_or h i e → originated r e.key e.what ≡ Some d.student → IsCandidate past r d → (i ≡ count) ⊎ (i < count) → Contains (cs ++ c ∷ []) d
    go i e d inside here told fits (inl last) =
        let told_there = subst (λ (x : Filing). originated r x.key x.what ≡ Some d.student) (one_filing h i count e f inside here at last) told in
        let same : c.student ≡ d.student = some_same c.student d.student (sym is ∙ told_there) in
        subst (Contains (cs ++ c ∷ [])) (same_candidate past r c d good fits same) (Contains-push cs c)
    go i e d inside here told fits (inr before) = Contains-append_left cs (c ∷ []) d (g.complete i e d before inside here told fits)

-- all candidates, in order and each once
pub gathered : (r : RoundRequest) (h : List Filing) (count : ℕ) (cs ds : List Candidate) → length h ≤ count → IsGathered (reverse h) r h count cs → IsInOrder ds
    → ((c : Candidate) → Contains ds c → Contains cs c) → ((c : Candidate) → Contains cs c → Any (λ d. is_alike c d ≡ true) ds) → AreCandidates (reverse h) r ds
gathered r h count cs ds whole g order only kept = (order, λ c. ((λ there. All-contains (IsCandidate (reverse h) r) cs c g.sound (only c there)), λ good. back c good))
  where
    back : (c : Candidate) → IsCandidate (reverse h) r c → Contains ds c
    back c good =
        let o = origination_of_cost r h c.student good.originated in
        let found = kept c (g.complete o.index o.filing c (omega (arith, o.inside)) o.inside o.here o.is good) in
        let d = found.1 in
        let there : Contains ds d = (found.0, found.2, found.3) in
        let alike = and_parts _ (c.student == d.student) found.4 in
        let same = same_candidate (reverse h) r c d good (All-contains (IsCandidate (reverse h) r) cs d g.sound (only d there)) (eqb-true c.student d.student alike.1) in
        subst (Contains ds) (sym same) there
