-- Entries of a list by their positions, and lists that are compared entry by entry.
use Rattle.std.proofs.Common.{◌≡◌, ℕ, zero, suc, ◌+◌, ◌-◌, ◌<◌, ◌≤◌, length, List, [], ◌∷◌, ◌++◌, reverse, take, get_or, take_all, Some, None, refl, ap, sym, subst, ◌∙◌, arith}
use Rattle.std.specs.List.{slice_get}
use Rattle.std.proofs.lemmas.List.{length-reverse, length-take-le, reverse-append, reverse-reverse}
use Rattle.std.proofs.lemmas.Option.{slice_get-get_or, slice_get_within}
use Rattle.aid_filings.specs.declared.filing.Filing.{Filing}
use Rattle.aid_stamps.specs.declared.stamp.Stamp.{Stamp}
use Rattle.log_stamps.specs.Entries.{entries, stamped, with_stamp}
use Rattle.log_stamps.specs.declared.entry.StampedEntry.{StampedEntry}
use Rattle.log_stamps.proofs.Steps.{length-stamped}
use Rattle.office_history.specs.Rows.{filing_in}
use Rattle.office_history.proofs.Slices.{one_more}
use Rattle.office_history.specs.Past.{key_at}
use Rattle.office_amends.specs.Changes.{Differences, HasCompared, alone, entry_in, of_new, of_old, paired}
use Rattle.office_amends.specs.declared.comparing.Comparison.{Comparison}
use Rattle.office_amends.proofs.Steps.{item_more}

-- ---- an entry by its position
stamped-append : (fs gs : List Filing) (ss ts : List Stamp) → length ss ≡ length fs → stamped (fs ++ gs) (ss ++ ts) ≡ stamped fs ss ++ stamped gs ts
stamped-append [] gs [] ts same = refl
stamped-append [] gs (s ∷ ss) ts same = absurd (let bad : ⊥ = omega (arith, same) in bad)
stamped-append (f ∷ fs) gs [] ts same = absurd (let bad : ⊥ = omega (arith, same) in bad)
stamped-append (f ∷ fs) gs (s ∷ ss) ts same = ap (λ (l : List (StampedEntry Filing)). with_stamp s f ∷ l) (stamped-append fs gs ss ts (omega (arith, same)))

-- the oldest first
reverse-stamped : (fs : List Filing) (ss : List Stamp) → length ss ≡ length fs → reverse (stamped (reverse fs) (reverse ss)) ≡ stamped fs ss
reverse-stamped [] [] same = refl
reverse-stamped [] (s ∷ ss) same = absurd (let bad : ⊥ = omega (arith, same) in bad)
reverse-stamped (f ∷ fs) [] same = absurd (let bad : ⊥ = omega (arith, same) in bad)
reverse-stamped (f ∷ fs) (s ∷ ss) same =
    let older : length ss ≡ length fs = omega (arith, same) in
    let counts : length (reverse ss) ≡ length (reverse fs) = length-reverse ss ∙ older ∙ sym (length-reverse fs) in
    (λ i. reverse (stamped (reverse-append (f ∷ []) fs i) (reverse-append (s ∷ []) ss i)))
    ∙ ap reverse (stamped-append (reverse fs) (f ∷ []) (reverse ss) (s ∷ []) counts)
    ∙ reverse-append (stamped (reverse fs) (reverse ss)) (with_stamp s f ∷ [])
    ∙ ap (λ (l : List (StampedEntry Filing)). with_stamp s f ∷ l) (reverse-stamped fs ss older)

slice_get-stamped : (fs : List Filing) (ss : List Stamp) (i : ℕ) (f : Filing) (s : Stamp) → slice_get fs i ≡ Some f → slice_get ss i ≡ Some s → slice_get (stamped fs ss) i ≡ Some (with_stamp s f)
slice_get-stamped [] ss i f s is under = let bad : ⊥ = cc in absurd bad
slice_get-stamped (g ∷ fs) [] i f s is under = let bad : ⊥ = cc in absurd bad
slice_get-stamped (g ∷ fs) (t ∷ ss) zero f s is under =
    let one : g ≡ f = cc in
    let two : t ≡ s = cc in
    λ i. Some (with_stamp (two i) (one i))
slice_get-stamped (g ∷ fs) (t ∷ ss) (suc i) f s is under = slice_get-stamped fs ss i f s is under

slice_get-stamped_none : (fs : List Filing) (ss : List Stamp) (i : ℕ) → slice_get fs i ≡ None → slice_get (stamped fs ss) i ≡ None
slice_get-stamped_none [] ss i none = refl
slice_get-stamped_none (g ∷ fs) [] zero none = let bad : ⊥ = cc in absurd bad
slice_get-stamped_none (g ∷ fs) (t ∷ ss) zero none = let bad : ⊥ = cc in absurd bad
slice_get-stamped_none (g ∷ fs) [] (suc i) none = slice_get-stamped_none fs [] i none
slice_get-stamped_none (g ∷ fs) (t ∷ ss) (suc i) none = slice_get-stamped_none fs ss i none

module _ (history : List Filing) (ss : List Stamp) (same : length ss ≡ length history) where
  in_step : reverse (stamped history (reverse ss)) ≡ stamped (reverse history) ss
  in_step =
      ap (λ (h : List Filing). reverse (stamped h (reverse ss))) (sym (reverse-reverse history))
      ∙ reverse-stamped (reverse history) ss (same ∙ sym (length-reverse history))

  pub entry_there : (position : ℕ) (f : Filing) (s : Stamp) → filing_in history position ≡ Some f → s ≡ get_or ss (position - 1) s
      → Some (with_stamp s f) ≡ entry_in (stamped history (reverse ss)) position
  entry_there zero f s is at = let bad : ⊥ = cc in absurd bad
  entry_there (suc i) f s is at =
      let within = slice_get_within (reverse history) i f is in
      let inside : i < length ss = omega (arith, within, same, length-reverse history) in
      let down : suc i - 1 ≡ i = omega arith in
      sym (ap (λ (l : List (StampedEntry Filing)). slice_get l i) in_step
      ∙ slice_get-stamped (reverse history) ss i f s is (slice_get-get_or ss i s inside ∙ ap (λ (t : Stamp). Some t) (sym (at ∙ ap (λ (n : ℕ). get_or ss n s) down))))

  pub entry_nowhere : (position : ℕ) → filing_in history position ≡ None → None ≡ entry_in (stamped history (reverse ss)) position
  entry_nowhere zero none = refl
  entry_nowhere (suc i) none = sym (ap (λ (l : List (StampedEntry Filing)). slice_get l i) in_step ∙ slice_get-stamped_none (reverse history) ss i none)

-- ---- entry by entry
-- the first of a list and one more
pub stamped_more : (h : List Filing) (ss : List Stamp) (i : ℕ) (f : Filing) (s : Stamp) → i < length h → i < length ss → f ≡ get_or h i f → s ≡ get_or ss i s
    → stamped (reverse (take (i + 1) h)) (reverse (take (i + 1) ss)) ≡ with_stamp s f ∷ stamped (reverse (take i h)) (reverse (take i ss))
stamped_more h ss i f s inside under is at = λ k. stamped (one_more h i f inside is k) (item_more ss i s under at k)

-- all of them
pub stamped_all : (h : List Filing) (ss : List Stamp) (i : ℕ) (history : List Filing) → length h ≤ i → length ss ≤ i → reverse h ≡ history
    → stamped (reverse (take i h)) (reverse (take i ss)) ≡ stamped history (reverse ss)
stamped_all h ss i history all stamps is =
    (λ k. stamped (reverse (take_all i h all k)) (reverse (take_all i ss stamps k))) ∙ ap (λ (now : List Filing). stamped now (reverse ss)) is

-- one entry more is compared
pub of_old_more : (new past : List (StampedEntry Filing)) (told : List Filing) (e : StampedEntry Filing) (i : ℕ) (c : Comparison) → length past ≡ i → entries new ≡ told
    → HasCompared (paired (of_old new past) (i + 1) e (key_at e.entry.key told) (entry_in new (key_at e.entry.key told))) c → HasCompared (of_old new (e ∷ past)) c
of_old_more new past told e i c size is has =
    subst (λ (d : Differences). HasCompared d c)
    (λ j. paired (of_old new past) (sym size j + 1) e (key_at e.entry.key (sym is j)) (entry_in new (key_at e.entry.key (sym is j)))) has

pub of_new_more : (old past : List (StampedEntry Filing)) (told : List Filing) (d : Differences) (e : StampedEntry Filing) (i : ℕ) (c : Comparison) → length past ≡ i → entries old ≡ told
    → HasCompared (alone (of_new old d past) (i + 1) e (entry_in old (key_at e.entry.key told))) c → HasCompared (of_new old d (e ∷ past)) c
of_new_more old past told d e i c size is has =
    subst (λ (now : Differences). HasCompared now c) (λ j. alone (of_new old d past) (sym size j + 1) e (entry_in old (key_at e.entry.key (sym is j)))) has

-- how many the first of a list are
pub size_of_first : (h : List Filing) (ss : List Stamp) (i : ℕ) → i ≤ length h → length (stamped (reverse (take i h)) (reverse (take i ss))) ≡ i
size_of_first h ss i few = length-stamped (reverse (take i h)) (reverse (take i ss)) ∙ length-reverse (take i h) ∙ length-take-le i h few
