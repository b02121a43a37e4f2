-- The entry that an ask may add, once asks have stamps.
use Rattle.std.proofs.Common.{◌≡◌, ◌∙◌, refl, ap, Bool, List, Option, Some, None}
use Rattle.std.specs.Prelude.{is_some, option_map}
use Rattle.log_machine.specs.Scheme.{Semantics}
use Rattle.log_stamps.specs.Entries.{entries, with_stamp}
use Rattle.log_stamps.specs.Stamped.{stamped_semantics}
use Rattle.log_stamps.specs.declared.entry.StampedOperation.{StampedOperation}
use Rattle.log_stamps.specs.declared.entry.StampedEntry.{StampedEntry}

module _ {E A V : Type 0} (semantics : Semantics E A V) where
  pub own_added : (own : A → Option E) → ((past : List E) (operation : A) (e : E) → semantics.added past operation ≡ Some e → own operation ≡ Some e)
      → (past : List (StampedEntry E)) (operation : StampedOperation A) (e : StampedEntry E) → (stamped_semantics semantics).added past operation ≡ Some e
      → option_map (with_stamp operation.stamp) (own operation.operation) ≡ Some e
  own_added own law past operation e is = go (semantics.added (entries past) operation.operation) refl is
    where
      go : (o : Option E) → semantics.added (entries past) operation.operation ≡ o → option_map (with_stamp operation.stamp) o ≡ Some e → option_map (with_stamp operation.stamp) (own operation.operation) ≡ Some e
      go None added same = absurd (let bad : ⊥ = cc in bad)
      go (Some f) added same = ap (option_map (with_stamp operation.stamp)) (law (entries past) operation.operation f added) ∙ same

  pub adds_added : (adds : V → Bool) → ((past : List E) (operation : A) → adds (semantics.answer past operation) ≡ is_some (semantics.added past operation))
      → (past : List (StampedEntry E)) (operation : StampedOperation A) → adds ((stamped_semantics semantics).answer past operation) ≡ is_some ((stamped_semantics semantics).added past operation)
  adds_added adds law past operation = law (entries past) operation.operation ∙ go (semantics.added (entries past) operation.operation)
    where
      go : (o : Option E) → is_some o ≡ is_some (option_map (with_stamp operation.stamp) o)
      go None = refl
      go (Some f) = refl
