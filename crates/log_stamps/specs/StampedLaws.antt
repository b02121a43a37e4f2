-- What holds of every stamping docket.
use Rattle.std.proofs.Common.{◌≡◌, ℕ, suc, ◌≤◌, refl, sym, ◌∙◌, ap, arith, IsTrue, List, [], ◌∷◌, ◌++◌, length, append_assoc, length-append, Option, Some, None}
use Rattle.std.specs.Prelude.{option_map}
use Rattle.log_journal.specs.Stands.{IsPayload}
use Rattle.log_journal.specs.declared.header.Header.{Header}
use Rattle.log_machine.specs.Scheme.{Scheme, Semantics}
use Rattle.log_machine.specs.Submits.{with_entry}
use Rattle.aid_stamps.specs.StampLaws.{stamp_alone, stamp_short}
use Rattle.aid_stamps.specs.Stamps.{stamp_bytes}
use Rattle.aid_stamps.specs.declared.stamp.Stamp.{Stamp}
use Rattle.log_stamps.specs.Entries.{entries, stamped, with_stamp, later_stamps}
use Rattle.log_stamps.specs.Stamped.{stamped_scheme, stamped_semantics}
use Rattle.log_stamps.specs.declared.entry.StampedOperation.{StampedOperation}
use Rattle.log_stamps.specs.declared.entry.StampedEntry.{StampedEntry}

-- the entries of a list in step with stamps are the list
pub entries-stamped : {E : Type 0} (es : List E) (ss : List Stamp) → entries (stamped es ss) ≡ es
entries-stamped [] ss = refl
entries-stamped (e ∷ es) ss = ap (λ (rest : List _). e ∷ rest) (entries-stamped es (later_stamps ss))

pub length-entries : {E : Type 0} (past : List (StampedEntry E)) → length (entries past) ≡ length past
length-entries [] = refl
length-entries (e ∷ past) = ap (λ (n : ℕ). suc n) (length-entries past)

-- what joins with a stamp joins the entries
pub entries-added : {E : Type 0} (stamp : Stamp) (added : Option E) (past : List (StampedEntry E)) → entries (with_entry (option_map (with_stamp stamp) added) past) ≡ with_entry added (entries past)
entries-added stamp None past = refl
entries-added stamp (Some e) past = refl

module _ {E : Type 0} (header : Header) (scheme : Scheme E) where
  pub keepable : ((e : E) → scheme.IsEntry e → length (scheme.spelling e) ≤ 8155) → (e : StampedEntry E) → (stamped_scheme header scheme).IsEntry e
      → IsPayload ((stamped_scheme header scheme).spelling e)
  keepable few e is =
      let short = stamp_short e.stamp is.0 in
      let room = few e.entry is.1 in
      let whole = length-append (stamp_bytes e.stamp) (scheme.spelling e.entry) in
      record { some = omega (arith, short.some, whole); fits = omega (arith, short.few, room, whole) }

  pub alone : ((one other : E) (rest : List ℕ) → scheme.IsEntry one → scheme.IsEntry other → scheme.spelling one ++ rest ≡ scheme.spelling other → one ≡ other)
      → (one other : StampedEntry E) (rest : List ℕ) → (stamped_scheme header scheme).IsEntry one → (stamped_scheme header scheme).IsEntry other
      → (stamped_scheme header scheme).spelling one ++ rest ≡ (stamped_scheme header scheme).spelling other → one ≡ other
  alone law one other rest is also same =
      let parts = stamp_alone one.stamp other.stamp (scheme.spelling one.entry ++ rest) (scheme.spelling other.entry) is.0 also.0
      (sym (append_assoc (stamp_bytes one.stamp) (scheme.spelling one.entry) rest) ∙ same) in
      let p = law one.entry other.entry rest is.1 also.1 parts.behind in
      let q = parts.stamp in
      λ i. record { entry = p i; stamp = q i }

  pub added_admitted : {A V : Type 0} (semantics : Semantics E A V)
      → ((past : List E) (operation : A) (e : E) → semantics.added past operation ≡ Some e → IsTrue (scheme.admits past e))
      → (past : List (StampedEntry E)) (operation : StampedOperation A) (e : StampedEntry E) → (stamped_semantics semantics).added past operation ≡ Some e
      → IsTrue ((stamped_scheme header scheme).admits past e)
  added_admitted semantics law past operation e is = go (semantics.added (entries past) operation.operation) refl is
    where
      go : (o : Option E) → semantics.added (entries past) operation.operation ≡ o → option_map (with_stamp operation.stamp) o ≡ Some e → IsTrue (scheme.admits (entries past) e.entry)
      go None added same = absurd (let bad : ⊥ = cc in bad)
      go (Some f) added same =
          let one : f ≡ e.entry = ap (λ (o : Option (StampedEntry E)). elim o as (λ _. E) [ None ↦ f | Some x ↦ x.entry ]) same in
          law (entries past) operation.operation e.entry (added ∙ ap (λ (x : E). Some x) one)
