-- The filing at a position, and the rows that tell where each key stands.
use Rattle.std.proofs.Common.{◌≡◌, ℕ, suc, ◌+◌, ◌-◌, ◌<◌, ◌≤◌, refl, sym, ap, subst, ◌∙◌, arith, Bool, true, false, List, [], ◌∷◌, ◌++◌, length, reverse, Option, Some, None, append_assoc, take, drop, drop-cons, get_or, ◌⊎◌, inl, inr, length-append}
use Rattle.std.proofs.lemmas.List.{reverse-append, take-append-drop, length-take-le, map-append}
use Rattle.sorted_rows.specs.Places.{value_at}
use Rattle.aid_types.specs.declared.number.Key.{Key}
use Rattle.log_rules.specs.Kept.{HaveOutcomes, IsKept, place_of}
use Rattle.log_rules.specs.Names.{filing_cmp, filing_name}
use Rattle.log_rules.specs.Ruled.{Standing, answer_at, answer_of, answer_there, earlier, entries_of, here_if, history_of, same_key, standing_after, standing_of, standing_with}
use Rattle.log_rules.specs.Ruling.{Ruling}
use Rattle.log_rules.specs.declared.number.FilingNumber.{FilingNumber}
use Rattle.log_rules.specs.declared.rules.Filed.{Filed}
use Rattle.log_rules.proofs.Few.{length-history}

reverse-middle : {A : Type 0} (before after : List A) (f : A) → reverse (before ++ f ∷ after) ≡ reverse after ++ f ∷ reverse before
reverse-middle {A} before after f =
    reverse-append before (f ∷ after)
    ∙ ap (λ (l : List A). l ++ reverse before) (reverse-append (f ∷ []) after)
    ∙ append_assoc (reverse after) (f ∷ []) (reverse before)

-- what stands at an index comes right after those before it
pub reverse-at : {A : Type 0} (h : List A) (i : ℕ) (x : A) → i < length h → x ≡ get_or h i x → reverse h ≡ reverse (drop (suc i) h) ++ x ∷ reverse (take i h)
reverse-at {A} h i x lt at =
    ap (λ (l : List A). reverse l) (sym (take-append-drop i h) ∙ ap (λ (l : List A). take i h ++ l) (drop-cons h i x lt))
    ∙ reverse-middle (take i h) (drop (suc i) h) (get_or h i x)
    ∙ ap (λ (y : A). reverse (drop (suc i) h) ++ y ∷ reverse (take i h)) (sym at)

-- what is found was found before, or is found here
before_or_here : {A : Type 0} (before : Option A) (b : Bool) (here s : A) → earlier before (here_if b here) ≡ Some s → (before ≡ Some s) ⊎ (here ≡ s)
before_or_here (Some a) b here s is = inl is
before_or_here None true here s is = inr (let e : here ≡ s = cc in e)
before_or_here None false here s is = absurd (let bad : ⊥ = cc in bad)

-- a filing that stands at a position
pub record StandsAt {Entry Outcome : Type 0} (o : Option (Standing Entry Outcome)) (p : ℕ) : Type 0 where
  pub standing : Standing Entry Outcome
  pub is : o ≡ Some standing
  pub at : standing.position ≡ p

pub place_is : {Entry Outcome : Type 0} (o : Option (Standing Entry Outcome)) (p : ℕ) → place_of o ≡ Some p → StandsAt o p
place_is None p e = absurd (let bad : ⊥ = cc in bad)
place_is (Some s) p e = record { standing = s; is = refl; at = (let at : s.position ≡ p = cc in at) }

module _ {Entry Outcome : Type 0} (ruling : Ruling Entry Outcome) where
  -- a position is one of those of the filings that stand
  pub standing_within : (past : List Entry) (key : Key) (s : Standing Entry Outcome) → standing_of ruling key past ≡ Some s → (1 ≤ s.position) × (s.position ≤ length past)
  standing_within [] key s is = absurd (let bad : ⊥ = cc in bad)
  standing_within (g ∷ past) key s is =
      elim (before_or_here (standing_of ruling key past) (same_key key (ruling.key_of g)) (standing_after ruling past g) s is) [
        | inl found ↦ let within = standing_within past key s found in (within.0, omega arith)
        | inr here ↦ let at : length past + 1 ≡ s.position = ap (λ (t : Standing Entry Outcome). t.position) here in (omega arith, omega arith)
      ]

  -- the filing at a key's position is the one that stands under the key
  pub standing_at : (newer older : List Entry) (x : Entry) (key : Key) (s : Standing Entry Outcome) → standing_of ruling key (newer ++ x ∷ older) ≡ Some s → s.position ≡ length older + 1
      → standing_after ruling older x ≡ s
  standing_at [] older x key s is at =
      elim (before_or_here (standing_of ruling key older) (same_key key (ruling.key_of x)) (standing_after ruling older x) s is) [
        | inl found ↦ let within = standing_within older key s found in absurd (omega arith)
        | inr here ↦ here
      ]
  standing_at (n ∷ newer) older x key s is at =
      elim (before_or_here (standing_of ruling key (newer ++ x ∷ older)) (same_key key (ruling.key_of n)) (standing_after ruling (newer ++ x ∷ older) n) s is) [
        | inl found ↦ standing_at newer older x key s found at
        | inr here ↦
            let behind : length (newer ++ x ∷ older) + 1 ≡ s.position = ap (λ (t : Standing Entry Outcome). t.position) here in
            absurd (omega (arith, length-append newer (x ∷ older)))
      ]

  -- a filing's outcome
  outcome_is : (newer older : List (Filed Entry Outcome)) (g : Filed Entry Outcome) → HaveOutcomes ruling (newer ++ g ∷ older) → g.outcome ≡ ruling.outcome (entries_of older) g.entry
  outcome_is [] older g all = all.1
  outcome_is (n ∷ newer) older g all = outcome_is newer older g all.0

  -- what stands under a key stands at its index
  there : (h : List (Filed Entry Outcome)) (key : Key) (s : Standing Entry Outcome) (i : ℕ) (x : Filed Entry Outcome) → HaveOutcomes ruling (reverse h)
      → standing_of ruling key (history_of h) ≡ Some s → s.position ≡ i + 1 → i < length h → x ≡ get_or h i x → standing_with (i + 1) x.entry x.outcome ≡ s
  there h key s i x all is at lt here =
      let older = reverse (take i h) in
      let newer = reverse (drop (suc i) h) in
      let split = reverse-at h i x lt here in
      let parts : history_of h ≡ entries_of newer ++ x.entry ∷ entries_of older =
      ap (λ (l : List (Filed Entry Outcome)). entries_of l) split ∙ map-append (λ (f : Filed Entry Outcome). f.entry) newer (x ∷ older) in
      let many : length (entries_of older) ≡ i = length-history (take i h) ∙ length-take-le i h (omega arith) in
      let told = outcome_is newer older x (subst (λ (l : List (Filed Entry Outcome)). HaveOutcomes ruling l) split all) in
      let same = standing_at (entries_of newer) (entries_of older) x.entry key s (subst (λ (l : List Entry). standing_of ruling key l ≡ Some s) parts is) (omega (arith, at, many)) in
      (λ j. standing_with (sym many j + 1) x.entry (told j)) ∙ same

  -- what is found under the name of a filing's key
  pub row_of_key : (rows : List (FilingNumber × ℕ)) (f : Entry) (key : Key) (name : FilingNumber) (o : Option ℕ) → key ≡ ruling.key_of f → name ≡ filing_name key
      → o ≡ value_at filing_cmp name rows → value_at filing_cmp (filing_name (ruling.key_of f)) rows ≡ o
  row_of_key rows f key name o is named found =
      sym (found ∙ ap (λ (n : FilingNumber). value_at filing_cmp n rows) (named ∙ ap (λ (k : Key). filing_name k) is))

  -- the row of a key tells where a filing stands, and which
  pub answered_within : (h : List (Filed Entry Outcome)) (rows : List (FilingNumber × ℕ)) (on_file : List Entry) (key : Key) (p : ℕ) → IsKept ruling (reverse h) rows on_file
      → value_at filing_cmp (filing_name key) rows ≡ Some p → (1 ≤ p) × (p ≤ length h)
  answered_within h rows on_file key p kept row =
      let stands = place_is (standing_of ruling key (history_of h)) p (sym (kept.keys key) ∙ row) in
      let within = standing_within (history_of h) key stands.standing stands.is in
      let size = length-history h in
      (omega (arith, within.0, stands.at), omega (arith, within.1, stands.at, size))

  pub answered_there : (h : List (Filed Entry Outcome)) (rows : List (FilingNumber × ℕ)) (on_file : List Entry) (f : Entry) (p : ℕ) (x : Filed Entry Outcome)
      → IsKept ruling (reverse h) rows on_file → value_at filing_cmp (filing_name (ruling.key_of f)) rows ≡ Some p → x ≡ get_or h (p - 1) x
      → answer_there ruling f (standing_with p x.entry x.outcome) ≡ answer_of ruling (history_of h) f
  answered_there h rows on_file f p x kept row here =
      let stands = place_is (standing_of ruling (ruling.key_of f) (history_of h)) p (sym (kept.keys (ruling.key_of f)) ∙ row) in
      let within = answered_within h rows on_file (ruling.key_of f) p kept row in
      let position : p - 1 + 1 ≡ p = omega (arith, within.0) in
      let same = there h (ruling.key_of f) stands.standing (p - 1) x kept.outcomes stands.is (omega (arith, within.0, stands.at)) (omega (arith, within.0, within.1)) here in
      ap (λ (n : ℕ). answer_there ruling f (standing_with n x.entry x.outcome)) (sym position)
      ∙ ap (λ (s : Standing Entry Outcome). answer_there ruling f s) same
      ∙ ap (λ (o : Option (Standing Entry Outcome)). answer_at ruling (history_of h) f o) (sym stands.is)
