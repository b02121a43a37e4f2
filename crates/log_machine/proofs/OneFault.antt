-- A file has one faulty place at most.
use Rattle.std.proofs.Common.{◌≡◌, ◌⊎◌, inl, inr, ℕ, List, [], ◌∷◌, ◌++◌, length, refl, sym, ◌∙◌, ap, subst, append_assoc, arith, length-append}
use Rattle.std.proofs.lemmas.List.{append-nil}
use Rattle.log_journal.specs.Stands.{Payloads, ArePayloads, front_of, body_of, gate_place}
use Rattle.log_journal.proofs.Gates.{front_of-push, payloads-front}
use Rattle.log_journal.proofs.Unique.{meets, unended}
use Rattle.log_journal.specs.declared.header.Header.{Header}
use Rattle.log_machine.specs.Scheme.{Scheme}
use Rattle.log_machine.specs.Recovers.{payloads_of, AreEntries}
use Rattle.log_machine.specs.Faulty.{BeginsWith, HasFault, no_record, no_entry, not_legal, IsFaultyAt}
use Rattle.log_machine.proofs.Histories.{AreAlone}
use Rattle.log_machine.proofs.Images.{PastIsLegal}
use Rattle.log_machine.proofs.NoFault.{older_payloads, older_legal, spelled_at}

none_of : (l : Payloads) → length l ≡ 0 → l ≡ []
none_of [] is = refl
none_of (x ∷ l) is = absurd (omega arith)

module _ (header : Header) (file : List ℕ) where
  -- a file that begins with the records of payloads begins with those of all but the last
  but_last : (payloads : Payloads) (last : List ℕ) → BeginsWith header file (payloads ++ last ∷ []) → BeginsWith header file payloads
  but_last payloads last b = record {
    rest = (1 ∷ body_of last) ++ b.rest;
    whole = b.whole ∙ ap (λ (l : List ℕ). l ++ b.rest) (front_of-push header payloads last) ∙ append_assoc (front_of header payloads) (1 ∷ body_of last) b.rest;
    sizes = payloads-front payloads last b.sizes;
  }

  -- where payloads go on, they go on with the next one of the file
  goes_on : (payloads more : Payloads) (x y : List ℕ) → BeginsWith header file (payloads ++ y ∷ []) → BeginsWith header file (payloads ++ x ∷ more) →
      (behind : Payloads) × (payloads ++ x ∷ more ≡ (payloads ++ y ∷ []) ++ behind)
  goes_on payloads more x y b c = go (meets header file b.rest c.rest (payloads ++ y ∷ []) (payloads ++ x ∷ more) b.whole c.whole b.sizes c.sizes)
    where
      go : ((behind : Payloads) × (payloads ++ x ∷ more ≡ (payloads ++ y ∷ []) ++ behind)) ⊎ ((behind : Payloads) × (payloads ++ y ∷ [] ≡ (payloads ++ x ∷ more) ++ behind)) →
          (behind : Payloads) × (payloads ++ x ∷ more ≡ (payloads ++ y ∷ []) ++ behind)
      go (inl first) = first
      go (inr first) =
          let none : first.0 ≡ [] = none_of first.0 (omega (arith, ap length first.1, length-append payloads (y ∷ []), length-append (payloads ++ x ∷ more) first.0, length-append payloads (x ∷ more))) in
          ([], sym (append-nil (payloads ++ y ∷ []) ∙ first.1 ∙ ap (λ (l : Payloads). (payloads ++ x ∷ more) ++ l) none ∙ append-nil (payloads ++ x ∷ more)))

module _ {Entry : Type 0} (scheme : Scheme Entry) (alone : AreAlone scheme) (law : PastIsLegal scheme) (file : List ℕ) where
  -- the spellings of a list
  abbrev payloads : List Entry → Payloads
  payloads = payloads_of scheme.spelling

  -- what is before a fault
  before_fault : (history : List Entry) → HasFault scheme file history → BeginsWith scheme.header file (payloads history)
  before_fault history (no_record place d) = record { rest = d.rest; whole = d.whole; sizes = d.sizes }
  before_fault history (no_entry payload b none) = but_last scheme.header file (payloads history) payload b
  before_fault history (not_legal e b range illegal) = but_last scheme.header file (payloads history) (scheme.spelling e) b

  -- no legal list goes on behind a fault
  no_further : (h k : List Entry) (x : List ℕ) (more : Payloads) → HasFault scheme file h → AreEntries scheme.IsEntry h → AreEntries scheme.IsEntry k → scheme.IsLegal k →
      payloads k ≡ payloads h ++ x ∷ more → BeginsWith scheme.header file (payloads k) → ⊥
  no_further h k x more (no_record place d) ph pk legal is b =
      unended scheme.header file b.rest (payloads h) more x place (b.whole ∙ ap (λ (l : Payloads). front_of scheme.header l ++ b.rest) is) (subst ArePayloads is b.sizes) d
  no_further h k x more (no_entry payload c none) ph pk legal is b =
      let on = goes_on scheme.header file (payloads h) more x payload c (subst (BeginsWith scheme.header file) is b) in
      let s = spelled_at scheme alone k (payloads h) payload on.0 pk (is ∙ on.1) in
      none s.0 s.1 s.2
  no_further h k x more (not_legal e c range illegal) ph pk legal is b =
      let on = goes_on scheme.header file (payloads h) more x (scheme.spelling e) c (subst (BeginsWith scheme.header file) is b) in
      let o = older_payloads scheme alone k (e ∷ h) on.0 pk (ph, range) (is ∙ on.1) in
      illegal (older_legal scheme law o.0 (e ∷ h) (subst scheme.IsLegal o.1 legal))

  pub one_fault : (place other : ℕ) → IsFaultyAt scheme file place → IsFaultyAt scheme file other → place ≡ other
  one_fault place other a b = go (meets scheme.header file one.rest two.rest (payloads a.history) (payloads b.history) one.whole two.whole one.sizes two.sizes)
    where
      one : BeginsWith scheme.header file (payloads a.history)
      one = before_fault a.history a.fault

      two : BeginsWith scheme.header file (payloads b.history)
      two = before_fault b.history b.fault

      go : ((more : Payloads) × (payloads b.history ≡ payloads a.history ++ more)) ⊎ ((more : Payloads) × (payloads a.history ≡ payloads b.history ++ more)) → place ≡ other
      go (inl ([], is)) = a.gate ∙ ap gate_place (sym (is ∙ append-nil (payloads a.history))) ∙ sym b.gate
      go (inl (x ∷ more, is)) = absurd (no_further a.history b.history x more a.fault a.entries b.entries b.legal is two)
      go (inr ([], is)) = a.gate ∙ ap gate_place (is ∙ append-nil (payloads b.history)) ∙ sym b.gate
      go (inr (x ∷ more, is)) = absurd (no_further b.history a.history x more b.fault b.entries a.entries a.legal is one)
