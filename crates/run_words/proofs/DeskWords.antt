-- The row of words of many desks.
use Rattle.std.proofs.Common.{◌≡◌, ◌↔◌, ℕ, ◌<◌, ◌≤◌, Bool, not, List, [], ◌∷◌, map, length, refl, sym, ◌∙◌, subst, arith, codes}
use Rattle.std.specs.Prelude.{IsTrue}
use Rattle.std.specs.List.{list_all}
use Rattle.aid_stamps.specs.declared.stamp.Stamp.{Stamp}
use Rattle.run_words.specs.Words.{AreDesks, begins_with_hyphen}
use Rattle.run_words.specs.declared.command.MainRow.{MainRow}
use Rattle.run_words.specs.declared.command.MainRow.TheVariants.{Run, Desks}

-- a test of all texts
pub all_map : {S : Type 0} (text : S → List ℕ) (p : List ℕ → Bool) (words : List S) → list_all p (map text words) ≡ list_all (λ w. p (text w)) words
all_map text p [] = refl
all_map text p (w ∷ words) = rw (all_map text p words) refl

count_map : {S : Type 0} (text : S → List ℕ) (words : List S) → length (map text words) ≡ length words
count_map text [] = refl
count_map text (w ∷ words) = rw (count_map text words) refl

abbrev plain : List ℕ → Bool
plain word = not (begins_with_hyphen word)

-- the words are such a row, and so their count is what was read
pub row_is : {S : Type 0} (text : S → List ℕ) (stamp : Stamp) (first : List ℕ) (files : List S) → first ≡ codes "desks" → 0 < length files → length files ≤ 16
    → IsTrue (list_all (λ w. not (begins_with_hyphen (text w))) files) → (count : ℕ) (s : Stamp) → (Desks (length files) stamp ≡ Desks count s) ↔ ((stamp ≡ s) × AreDesks (first ∷ map text files) count)
row_is text stamp first files is some few all count s = (
  λ same. let one : length files ≡ count = cc in
      let stamps : stamp ≡ s = cc in
      (stamps, (is, sym one ∙ sym (count_map text files), (subst (λ n. 1 ≤ n) one some, subst (λ n. n ≤ 16) one few), subst IsTrue (sym (all_map text plain files)) all)),
  λ (stamps, row). let sizes : length files ≡ count = sym (count_map text files) ∙ sym row.1 in λ i. Desks (sizes i) (stamps i),
)

-- they are none
pub row_is_none : {S : Type 0} (text : S → List ℕ) (stamp : Stamp) (first : List ℕ) (files : List S)
    → (first ≡ codes "desks" → 0 < length files → length files ≤ 16 → IsTrue (list_all (λ w. not (begins_with_hyphen (text w))) files) → ⊥)
    → (count : ℕ) (s : Stamp) → (Run ≡ Desks count s) ↔ ((stamp ≡ s) × AreDesks (first ∷ map text files) count)
row_is_none text stamp first files none count s = (
  λ same. absurd (let bad : ⊥ = cc in bad),
  λ (stamps, row). let size : count ≡ length files = row.1 ∙ count_map text files in
      absurd (none row.0 (omega (arith, size, row.2)) (omega (arith, size, row.2)) (subst IsTrue (all_map text plain files) row.3)),
)

-- the row of all words, by the first and those behind it
pub row_split : {S : Type 0} (text : S → List ℕ) (words : List S) (first : S) (files : List S) (word : List ℕ) (stamp : Stamp) (row : MainRow) → words ≡ first ∷ files → word ≡ text first
    → ((count : ℕ) (s : Stamp) → (row ≡ Desks count s) ↔ ((stamp ≡ s) × AreDesks (word ∷ map text files) count))
    → (count : ℕ) (s : Stamp) → (row ≡ Desks count s) ↔ ((stamp ≡ s) × AreDesks (map text words) count)
row_split {S} text words first files word stamp row whole is told count s =
    subst (λ (ws : List S). (row ≡ Desks count s) ↔ ((stamp ≡ s) × AreDesks (map text ws) count)) (sym whole)
    (subst (λ (w : List ℕ). (row ≡ Desks count s) ↔ ((stamp ≡ s) × AreDesks (w ∷ map text files) count)) is (told count s))
