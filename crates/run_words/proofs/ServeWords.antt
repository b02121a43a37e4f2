-- The row of words of a server.
use Rattle.std.proofs.Common.{◌≡◌, ◌↔◌, ℕ, ◌<◌, ◌≤◌, List, [], ◌∷◌, Option, Some, decimal, get_or, length, map, refl, sym, ap, ◌∙◌, subst, arith}
use Rattle.std.proofs.lemmas.Fmt.{decimal_injective}
use Rattle.std.proofs.lemmas.List.{length-map}
use Rattle.aid_stamps.specs.declared.stamp.Stamp.{Stamp}
use Rattle.run_words.specs.Words.{AreServe, ReadsServe, serve_words}
use Rattle.run_words.specs.declared.command.MainRow.{MainRow}
use Rattle.run_words.specs.declared.command.MainRow.TheVariants.{Serve}

-- a list of length 4
pub four : {X : Type 0} (xs : List X) (a b c d : X) → 4 ≤ length xs → length xs < 5 → a ≡ get_or xs 0 a → b ≡ get_or xs 1 b → c ≡ get_or xs 2 c → d ≡ get_or xs 3 d
    → xs ≡ a ∷ b ∷ c ∷ d ∷ []
four (w ∷ x ∷ y ∷ z ∷ []) a b c d some few is_a is_b is_c is_d = cc
four (w ∷ x ∷ y ∷ z ∷ u ∷ us) a b c d some few is_a is_b is_c is_d = absurd (omega arith)
four [] a b c d some few is_a is_b is_c is_d = absurd (omega arith)
four (v ∷ []) a b c d some few is_a is_b is_c is_d = absurd (omega arith)
four (v ∷ w ∷ []) a b c d some few is_a is_b is_c is_d = absurd (omega arith)
four (v ∷ w ∷ x ∷ []) a b c d some few is_a is_b is_c is_d = absurd (omega arith)

-- the texts of its items
pub four_texts : {X : Type 0} (text : X → List ℕ) (xs : List X) (a b c d : X) (p q r s : List ℕ) → xs ≡ a ∷ b ∷ c ∷ d ∷ []
    → p ≡ text a → q ≡ text b → r ≡ text c → s ≡ text d → map text xs ≡ p ∷ q ∷ r ∷ s ∷ []
four_texts text xs a b c d p q r s is at_a at_b at_c at_d = rw (is, at_a, at_b, at_c, at_d) refl

-- the same words are read alike
pub if_serve : (stamp : Stamp) (words other : List (List ℕ)) (read : Option MainRow) → other ≡ words → ReadsServe stamp words read → ReadsServe stamp other read
if_serve stamp words other read same reads = subst (λ (ws : List (List ℕ)). ReadsServe stamp ws read) (sym same) reads

-- the numbers of a server
record AreNumbers (p w s port workers sessions : ℕ) : Type 0 where
  port_is : p ≡ port
  workers_are : w ≡ workers
  sessions_are : s ≡ sessions

-- words are those of a server's numbers once at most
same_numbers : (p w s port workers sessions : ℕ) (words : List (List ℕ)) → AreServe words p w s → AreServe words port workers sessions → AreNumbers p w s port workers sessions
same_numbers p w s port workers sessions words are also =
    let within = are.1 in
    let others = also.1 in
    let same : serve_words p w s ≡ serve_words port workers sessions = sym are.0 ∙ also.0 in
    let port_is : decimal p ≡ decimal port = cc in
    let workers_are : decimal w ≡ decimal workers = cc in
    let sessions_are : decimal s ≡ decimal sessions = cc in
    record {
      port_is = decimal_injective p port (omega (arith, within)) (omega (arith, others)) port_is;
      workers_are = decimal_injective w workers (omega (arith, within)) (omega (arith, others)) workers_are;
      sessions_are = decimal_injective s sessions (omega (arith, within)) (omega (arith, others)) sessions_are;
    }

-- the row that was read is told by its numbers
pub serve_told : (stamp : Stamp) (words : List (List ℕ)) (read : Option MainRow) (row : MainRow) → read ≡ Some row → ReadsServe stamp words read
    → (port workers sessions : ℕ) (s : Stamp) → (row ≡ Serve port workers sessions s) ↔ ((stamp ≡ s) × AreServe words port workers sessions)
serve_told stamp words read row is reads port workers sessions s = go (subst (λ (r : Option MainRow). ReadsServe stamp words r) is reads)
  where
    go : ReadsServe stamp words (Some row) → (row ≡ Serve port workers sessions s) ↔ ((stamp ≡ s) × AreServe words port workers sessions)
    go told = (
      λ at. let one : Serve told.0 told.1 told.2 stamp ≡ Serve port workers sessions s = sym told.3 ∙ at in
          let first : told.0 ≡ port = cc in
          let second : told.1 ≡ workers = cc in
          let third : told.2 ≡ sessions = cc in
          let stamps : stamp ≡ s = cc in
          (stamps, subst (λ (b : ℕ × (ℕ × ℕ)). AreServe words b.0 b.1.0 b.1.1) (λ i. (first i, (second i, third i))) told.4),
      λ (stamps, row_is). let same = same_numbers told.0 told.1 told.2 port workers sessions words told.4 row_is in
          told.3 ∙ (λ i. Serve (same.port_is i) (same.workers_are i) (same.sessions_are i) (stamps i)),
    )

-- other than four words are no server's
pub no_serve : {X : Type 0} (text : X → List ℕ) (words : List X) → (length words ≡ 4 → ⊥) → (port workers sessions : ℕ) → AreServe (map text words) port workers sessions → ⊥
no_serve text words other port workers sessions row = other (sym (length-map words text) ∙ ap length row.0)
