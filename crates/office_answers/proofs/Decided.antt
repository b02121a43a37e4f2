-- The answer to a filing, by what stands at the position of its key.
use Rattle.std.proofs.Common.{◌≡◌, ℕ, zero, suc, ◌+◌, ◌≤◌, ◌<◌, refl, sym, ap, subst, ◌∙◌, arith, Bool, true, false, List, [], ◌∷◌, ◌++◌, length, reverse, take, drop, Option, Some, None}
use Rattle.std.specs.List.{slice_get}
use Rattle.std.proofs.lemmas.List.{length-reverse, length-take-le, reverse-reverse}
use Rattle.std.proofs.lemmas.Option.{get_or_from_slice_get, none-some, slice_get_within}
use Rattle.aid_types.specs.declared.award.Refusal.{Refusal}
use Rattle.aid_types.proofs.Same.{tells_key}
use Rattle.aid_filings.specs.declared.filing.Filing.{Filing}
use Rattle.aid_filings.proofs.SameFiling.{tells_filing}
use Rattle.aid_filings.specs.declared.reply.Response.TheVariants.{Again, Refused}
use Rattle.aid_types.specs.declared.number.Key.{Key}
use Rattle.aid_filings.specs.declared.filing.What.{What}
use Rattle.law_rules.specs.declared.facts.Facts.{Facts}
use Rattle.law_rules.specs.InRange.{AreFactsInRange}
use Rattle.law_rules.specs.Lines.{broken_of}
use Rattle.office_history.specs.FactsOf.{facts_of}
use Rattle.office_history.proofs.FactsInRange.{facts_in_range}
use Rattle.office_history.proofs.LinesOf.{broken_is}
use Rattle.office_history.specs.Answer.{IsLegal, answer_of, breaks, judged, outcome_at}
use Rattle.office_history.specs.Past.{filing_at, first_at, first_of_two, key_at, same_filing, same_key}
use Rattle.office_history.proofs.Cases.{answer_of-new, answer_of-used}
use Rattle.office_history.proofs.InForce.{newest, older}
use Rattle.office_history.proofs.Legal.{filing_at-new}
use Rattle.office_history.proofs.Oldest.{reverse-at}
use Rattle.office_history.proofs.Recorded.{answer_of-repeated, outcome_at-stays}
use Rattle.office_history.specs.Rows.{filing_in}

-- what a search finds stands at its position and passes its test
abbrev Finds : (Filing → Bool) → List Filing → ℕ → Type 0
Finds p past n = (g : Filing) × (filing_in past (suc n) ≡ Some g) × (p g ≡ true)

found : (p : Filing → Bool) (past : List Filing) (n : ℕ) → first_at p past ≡ suc n → Finds p past n
found p [] n h = absurd (omega arith)
found p (f ∷ past) n h = go (found p past n) (p f) (first_at p past) refl refl h
  where
    before : Finds p past n → Finds p (f ∷ past) n
    before w = (w.0, older past f w.0 n w.1, w.2)

    go : (first_at p past ≡ suc n → Finds p past n) → (b : Bool) (k : ℕ) → p f ≡ b → first_at p past ≡ k →
        first_of_two b k (length past + 1) ≡ suc n → Finds p (f ∷ past) n
    go ih false k t e h = before (ih (e ∙ h))
    go ih true zero t e h = (f, newest past f n h, t)
    go ih true (suc k) t e h = before (ih (e ∙ h))

-- a filing that stands is at its position
filing_found : (past : List Filing) (f : Filing) (n : ℕ) → filing_at f past ≡ suc n → filing_in past (suc n) ≡ Some f
filing_found past f n h =
    let w = found (λ g. same_filing f g) past n h in
    w.1 ∙ ap (λ (g : Filing). Some g) (sym (tells_filing.same f w.0 w.2))

-- in a legal history its key is there too
key_stands : (past : List Filing) (f : Filing) (n : ℕ) → IsLegal past → filing_at f past ≡ suc n → key_at f.key past ≡ suc n
key_stands [] f n legal h = absurd (omega arith)
key_stands (g ∷ past) f n legal h = go (key_stands past f n legal.0) (same_filing f g) refl h
  where
    either : (b : Bool) (k m : ℕ) → k ≡ suc n → first_of_two b k m ≡ suc n
    either false k m e = e
    either true zero m e = absurd (omega arith)
    either true (suc k) m e = e

    go : (filing_at f past ≡ suc n → key_at f.key past ≡ suc n) → (b : Bool) → same_filing f g ≡ b →
        first_of_two b (filing_at f past) (length past + 1) ≡ suc n →
        first_of_two (same_key f.key g.key) (key_at f.key past) (length past + 1) ≡ suc n
    go ih false t h = either (same_key f.key g.key) (key_at f.key past) (length past + 1) (ih h)
    go ih true t h =
        let same : f ≡ g = tells_filing.same f g t in
        let key : same_key f.key g.key ≡ true = subst (λ (x : Filing). same_key f.key x.key ≡ true) same (tells_key.told f.key) in
        let new : key_at f.key past ≡ 0 = subst (λ (x : Filing). key_at x.key past ≡ 0) (sym same) legal.1 in
        let nowhere : filing_at f past ≡ 0 = filing_at-new past f new in
        rw (key, new) (rw nowhere at h)

-- so where another filing has its key, it stands nowhere
other_stands : (past : List Filing) (f g : Filing) (n : ℕ) → IsLegal past → key_at f.key past ≡ suc n → filing_in past (suc n) ≡ Some g →
    (g ≡ f → ⊥) → filing_at f past ≡ 0
other_stands past f g n legal key at other = go (filing_at f past) refl
  where
    go : (k : ℕ) → filing_at f past ≡ k → k ≡ 0
    go zero e = refl
    go (suc k) e =
        let same : suc k ≡ suc n = sym (key_stands past f k legal e) ∙ key in
        let here : filing_in past (suc n) ≡ Some f = subst (λ (m : ℕ). filing_in past m ≡ Some f) same (filing_found past f k e) in
        absurd (other cc)

-- the filing at an index of the list, which is read oldest first, is answered by its position
standing_at : (h : List Filing) (i : ℕ) (f : Filing) → IsLegal (reverse h) → slice_get h i ≡ Some f → answer_of (reverse h) f ≡ Again (suc i) (outcome_at (reverse h) (suc i))
standing_at h i f legal at =
    let lt : i < length h = slice_get_within h i f at in
    let newer = reverse (drop (suc i) h) in
    let past = reverse (take i h) in
    let split : reverse h ≡ newer ++ f ∷ past = reverse-at h i f lt ∙ ap (λ (g : Filing). newer ++ g ∷ past) (get_or_from_slice_get h i f f at) in
    let size : length past + 1 ≡ suc i = omega (arith, length-reverse (take i h), length-take-le i h (omega arith)) in
    let whole : IsLegal (newer ++ f ∷ past) = subst IsLegal split legal in
    subst (λ (l : List Filing). answer_of l f ≡ Again (suc i) (outcome_at l (suc i))) (sym split)
    (subst (λ (n : ℕ). answer_of (newer ++ f ∷ past) f ≡ Again n (outcome_at (newer ++ f ∷ past) n)) size
    (answer_of-repeated newer past f whole ∙ ap (λ o. Again (length past + 1) o) (sym (outcome_at-stays newer past f))))

-- ---- by what stands at the position of the key
-- the filing itself
pub answer_again : (past : List Filing) (position : ℕ) (f : Filing) → IsLegal past → filing_in past position ≡ Some f → Again position (outcome_at past position) ≡ answer_of past f
answer_again past zero f legal at = absurd (none-some f at)
answer_again past (suc i) f legal at =
    sym (subst (λ (l : List Filing). answer_of l f ≡ Again (suc i) (outcome_at l (suc i))) (reverse-reverse past)
    (standing_at (reverse past) i f (subst IsLegal (sym (reverse-reverse past)) legal) at))

-- another filing
pub answer_other : (past : List Filing) (position : ℕ) (f g : Filing) → IsLegal past → position ≡ key_at f.key past → filing_in past position ≡ Some g →
    same_filing g f ≡ false → Refused (record { rule = 15; kept = position; bound = f.key.number }) ≡ answer_of past f
answer_other past zero f g legal key at other = absurd (none-some g at)
answer_other past (suc i) f g legal key at other =
    let differ : g ≡ f → ⊥ =
    λ e. let same : same_filing g f ≡ true = subst (λ (x : Filing). same_filing g x ≡ true) e (tells_filing.told g) in let bad : ⊥ = cc in bad in
    sym (answer_of-used past f (suc i) (other_stands past f g i legal (sym key) at differ) key (omega arith))

-- nothing: the key is new
pub nothing_there : (past : List Filing) (f : Filing) (position : ℕ) → position ≡ key_at f.key past → filing_in past position ≡ None → key_at f.key past ≡ 0
nothing_there past f zero key at = sym key
nothing_there past f (suc n) key at =
    let w = found (λ g. same_key f.key g.key) past n (sym key) in
    absurd (none-some w.0 (sym at ∙ w.1))

-- a position where a filing stands is one of the list
pub position_within : (past : List Filing) (position : ℕ) (g : Filing) → filing_in past position ≡ Some g → (1 ≤ position) × (position ≤ length past)
position_within past zero g at = absurd (none-some g at)
position_within past (suc i) g at =
    let lt = slice_get_within (reverse past) i g at in
    (omega arith, omega (arith, lt, length-reverse past))

-- ---- a filing with a new key is judged by the rules of its kind
pub judged_new : (past : List Filing) (f : Filing) (o : Option Refusal) → key_at f.key past ≡ 0 → breaks past f ≡ o → answer_of past f ≡ judged past f o
judged_new past f o new e = answer_of-new past f (filing_at-new past f new) new ∙ ap (judged past f) e

-- ---- what is read of a kind for what is filed
-- it is in range
pub read_in_range : (past : List Filing) (key : Key) (what : What) (facts : Facts) → IsLegal past → facts ≡ facts_of past key what → AreFactsInRange facts
read_in_range past key what facts legal read = subst AreFactsInRange (sym read) (facts_in_range past legal (record { key = key; what = what }))

-- and decides whether a rule is broken
pub unbroken : (past : List Filing) (f : Filing) (what : What) (facts : Facts) → f.what ≡ what → facts ≡ facts_of past f.key what →
    broken_of facts f.key f.what ≡ None → breaks past f ≡ None
unbroken past f what facts is read none =
    sym (broken_is past f)
    ∙ ap (λ (w : What). broken_of (facts_of past f.key w) f.key f.what) is
    ∙ ap (λ (fs : Facts). broken_of fs f.key f.what) (sym read)
    ∙ none
