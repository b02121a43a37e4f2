-- A file recovers one list at most.
use Rattle.std.proofs.Common.{◌≡◌, ℕ, List, [], ◌∷◌, ◌++◌, length, refl, ap, ◌∙◌, arith, length-append}
use Rattle.std.proofs.lemmas.List.{append-nil}
use Rattle.log_journal.specs.Stands.{Payloads}
use Rattle.log_journal.proofs.Unique.{once}
use Rattle.log_machine.specs.Scheme.{Scheme}
use Rattle.log_machine.specs.Recovers.{payloads_of, AreEntries, Recovers}

-- what stands last in a list, and what stands before it
pub parts_same : (xs ys : Payloads) (x y : List ℕ) → xs ++ x ∷ [] ≡ ys ++ y ∷ [] → (xs ≡ ys) × (x ≡ y)
parts_same [] [] x y is = (refl, heads)
  where
    heads : x ≡ y
    heads = cc
parts_same [] (b ∷ ys) x y is = absurd (omega (arith, ap length is, length-append ys (y ∷ [])))
parts_same (a ∷ xs) [] x y is = absurd (omega (arith, ap length is, length-append xs (x ∷ [])))
parts_same (a ∷ xs) (b ∷ ys) x y is =
    let first : a ≡ b = cc in
    let behind : xs ++ x ∷ [] ≡ ys ++ y ∷ [] = cc in
    let both = parts_same xs ys x y behind in
    (ap (λ (l : List ℕ). l ∷ xs) first ∙ ap (λ (l : Payloads). b ∷ l) both.0, both.1)

-- a spelling is that of one entry, and begins that of no other
abbrev pub AreAlone : {Entry : Type 0} → Scheme Entry → Type 0
AreAlone {Entry} scheme = (one other : Entry) (rest : List ℕ) → scheme.IsEntry one → scheme.IsEntry other
    → scheme.spelling one ++ rest ≡ scheme.spelling other → one ≡ other

module _ {Entry : Type 0} (scheme : Scheme Entry) (alone : AreAlone scheme) where
  -- two entries have two spellings
  spelling_alone : (e o : Entry) → scheme.IsEntry e → scheme.IsEntry o → scheme.spelling e ≡ scheme.spelling o → e ≡ o
  spelling_alone e o p q is = alone e o [] p q (append-nil (scheme.spelling e) ∙ is)

  -- two lists have two lists of payloads
  pub payloads_once : (h k : List Entry) → AreEntries scheme.IsEntry h → AreEntries scheme.IsEntry k
      → payloads_of scheme.spelling h ≡ payloads_of scheme.spelling k → h ≡ k
  payloads_once [] [] p q is = refl
  payloads_once [] (o ∷ k) p q is = absurd (omega (arith, ap length is, length-append (payloads_of scheme.spelling k) (scheme.spelling o ∷ [])))
  payloads_once (e ∷ h) [] p q is = absurd (omega (arith, ap length is, length-append (payloads_of scheme.spelling h) (scheme.spelling e ∷ [])))
  payloads_once (e ∷ h) (o ∷ k) p q is =
      let both = parts_same (payloads_of scheme.spelling h) (payloads_of scheme.spelling k) (scheme.spelling e) (scheme.spelling o) is in
      ap (λ (x : Entry). x ∷ h) (spelling_alone e o p.1 q.1 both.1) ∙ ap (λ (l : List Entry). o ∷ l) (payloads_once h k p.0 q.0 both.0)

  pub recovers_once : (file : List ℕ) (h k : List Entry) → Recovers scheme file h → Recovers scheme file k → h ≡ k
  recovers_once file h k one other =
      payloads_once h k one.entries other.entries (once scheme.header file (payloads_of scheme.spelling h) (payloads_of scheme.spelling k) one.stands other.stands)
