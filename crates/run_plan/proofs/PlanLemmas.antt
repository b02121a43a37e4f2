-- Laws of the words of a plan.
use Rattle.std.proofs.Common.{◌≡◌, ◌↔◌, ℕ, ◌<◌, ◌≤◌, List, ◌∷◌, [], IsTrue, map, length, refl, sym, ◌∙◌, ap, subst, codes}
use Rattle.aid_stamps.specs.Stamps.{plain_stamp}
use Rattle.aid_stamps.specs.declared.stamp.Stamp.{Stamp}
use Rattle.run_words.specs.declared.command.MainRow.{MainRow}
use Rattle.run_words.specs.Stamped.{AreStampedServe, IsAmend}
use Rattle.run_words.specs.Words.{IsChanges, IsUpgrade}
use Rattle.run_words.specs.declared.command.MainRow.TheVariants.{Amend, Changes, Desks, Serve, Upgrade}
use Rattle.run_plan.specs.Plans.{AreDesksOf, IsFounding, IsUnheld, Suits, is_reading}
use Rattle.run_plan.specs.declared.plan.Opening.{Opening}
use Rattle.run_plan.specs.declared.plan.Opening.TheVariants as opening
use Rattle.run_plan.specs.declared.plan.Program.{Program}
use Rattle.run_plan.specs.declared.plan.Program.TheVariants.{Loans, Office, Sheet}

-- there are as many texts as words
count_map : {S : Type 0} (text : S → List ℕ) (words : List S) → length (map text words) ≡ length words
count_map text [] = refl
count_map text (w ∷ words) = rw (count_map text words) refl

-- the words are a row of loan desks
pub loan_desks : {S : Type 0} (text : S → List ℕ) (first : List ℕ) (files : List S) (stamp : Stamp) → stamp ≡ plain_stamp → first ≡ codes "desks" → 0 < length files → length files ≤ 16
    → (count : ℕ) (s : Stamp) → (Desks (length files) stamp ≡ Desks count s) ↔ AreDesksOf Loans (first ∷ map text files) count s
loan_desks text first files stamp plain is some few count s = (
  λ same. let one : length files ≡ count = cc in
      let stamps : stamp ≡ s = cc in
      (sym stamps ∙ plain, map text files, ap (λ f. f ∷ map text files) is, sym one ∙ sym (count_map text files), (subst (λ n. 1 ≤ n) one some, subst (λ n. n ≤ 16) one few)),
  λ (stamps, paths, words, sizes, within).
      let behind : map text files ≡ paths = cc in
      let size : length files ≡ count = sym (count_map text files) ∙ ap length behind ∙ sym sizes in
      let stamp_is : stamp ≡ s = plain ∙ sym stamps in
      λ i. Desks (size i) (stamp_is i),
)

-- the row of all words, by the first and those behind it
pub loan_split : {S : Type 0} (text : S → List ℕ) (words : List S) (first : S) (files : List S) (word : List ℕ) (row : MainRow) → words ≡ first ∷ files → word ≡ text first
    → ((count : ℕ) (s : Stamp) → (row ≡ Desks count s) ↔ AreDesksOf Loans (word ∷ map text files) count s)
    → (count : ℕ) (s : Stamp) → (row ≡ Desks count s) ↔ AreDesksOf Loans (map text words) count s
loan_split {S} text words first files word row whole is told count s =
    subst (λ (ws : List S). (row ≡ Desks count s) ↔ AreDesksOf Loans (map text ws) count s) (sym whole)
    (subst (λ (w : List ℕ). (row ≡ Desks count s) ↔ AreDesksOf Loans (w ∷ map text files) count s) is (told count s))

-- what holds of the words as they were lent holds of the words
pub suits_of : {S : Type 0} (text : S → List ℕ) (program : Program) (one other words : List S) (call : MainRow) (how : Opening) → one ≡ words → other ≡ words
    → ((files : ℕ) (stamp : Stamp) → (call ≡ Desks files stamp) ↔ AreDesksOf program (map text one) files stamp)
    → ((port workers sessions : ℕ) (stamp : Stamp) → (call ≡ Serve port workers sessions stamp) ↔ ((program ≡ Office) × AreStampedServe (map text one) port workers sessions stamp))
    → (call ≡ Upgrade) ↔ ((program ≡ Office) × ((file : List ℕ) × IsUpgrade (map text one) file))
    → (call ≡ Amend) ↔ ((program ≡ Office) × (stamp : Stamp) × (file : List ℕ) × (number : ℕ) × IsAmend (map text one) stamp file number)
    → (call ≡ Changes) ↔ ((program ≡ Sheet) × ((file : List ℕ) × IsChanges (map text one) file))
    → (how ≡ opening.Read) ↔ IsTrue (is_reading program (map text other)) → (how ≡ opening.Open → (program ≡ Office) × IsUnheld call (map text other)) → (how ≡ opening.Found) ↔ IsFounding program (map text other)
    → Suits program (map text words) call how
suits_of {S} text program one other words call how is also desks serve upgrade amend changes read unheld founds = record {
  desks = subst (λ (ws : List S). (files : ℕ) (stamp : Stamp) → (call ≡ Desks files stamp) ↔ AreDesksOf program (map text ws) files stamp) is desks;
  serve = subst (λ (ws : List S). (port workers sessions : ℕ) (stamp : Stamp) → (call ≡ Serve port workers sessions stamp) ↔ ((program ≡ Office) × AreStampedServe (map text ws) port workers sessions stamp)) is serve;
  upgrade = subst (λ (ws : List S). (call ≡ Upgrade) ↔ ((program ≡ Office) × ((file : List ℕ) × IsUpgrade (map text ws) file))) is upgrade;
  amend = subst (λ (ws : List S). (call ≡ Amend) ↔ ((program ≡ Office) × (stamp : Stamp) × (file : List ℕ) × (number : ℕ) × IsAmend (map text ws) stamp file number)) is amend;
  changes = subst (λ (ws : List S). (call ≡ Changes) ↔ ((program ≡ Sheet) × ((file : List ℕ) × IsChanges (map text ws) file))) is changes;
  read = subst (λ (ws : List S). (how ≡ opening.Read) ↔ IsTrue (is_reading program (map text ws))) also read;
  unheld = subst (λ (ws : List S). how ≡ opening.Open → (program ≡ Office) × IsUnheld call (map text ws)) also unheld;
  founds = subst (λ (ws : List S). (how ≡ opening.Found) ↔ IsFounding program (map text ws)) also founds;
}
