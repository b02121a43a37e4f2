-- What a pass knows, by its badge and by its seat.
use Rattle.std.proofs.Common.{◌≡◌, List, [], ◌∷◌, Option, ap, sym, ◌∙◌, subst}
use Rattle.atomic_table.specs.Seated.{TableId}
use Rattle.log_lock.specs.declared.turned.Snapshot.{Snapshot}
use Rattle.log_lock.specs.declared.view.View.{View}
use Rattle.log_lock.specs.Turning.{Says}
use Rattle.log_lock.specs.Passes.{Known, IsOlder, TakesSubmit}
use Rattle.log_lock.specs.Views.{known, known_of}
use Rattle.log_lock.proofs.Lists.{older_trans}
use Rattle.log_lock.proofs.Goings.{older_by}

module _ {E : Type 0} where
  -- before its badge is made a seat
  pub known_before : (lock table : TableId) (views : List (View E)) (v : View E) (handle : Known E) → handle ≡ known_of table views → views ≡ v ∷ [] → handle.lock ≡ lock → known lock v ≡ handle
  known_before lock table views v handle is one at =
      let same : handle ≡ known table v = is ∙ ap (known_of table) one in
      ap (λ t. known t v) (sym at ∙ ap (λ (p : Known E). p.lock) same) ∙ sym same

  -- after its seat is made a badge
  pub known_then : (lock table : TableId) (views : List (View E)) (v : View E) → views ≡ v ∷ [] → table ≡ lock → known lock v ≡ known_of table views
  known_then lock table views v one at = ap (λ t. known t v) (sym at) ∙ sym (ap (known_of table) one)

  pub turn_known : (own : Option E) (says : Says) (Meets : Snapshot E → Snapshot E → Type 0) (before before' after after' : Known E) → before ≡ before' → after ≡ after' → TakesSubmit own says Meets before after → TakesSubmit own says Meets before' after'
  turn_known own says Meets before before' after after' same then submit = subst (λ p. TakesSubmit own says Meets p after') same (subst (TakesSubmit own says Meets before) then submit)

  -- the list that was seen is the older part of the list seen after a turn
  pub turn_seen : (own : Option E) (says : Says) (Meets : Snapshot E → Snapshot E → Type 0) (before after : Known E) → TakesSubmit own says Meets before after → IsOlder before.seen after.seen
  turn_seen own says Meets before after submit =
      subst (IsOlder before.seen) (sym (ap (λ (p : Known E). p.seen) submit.whole)) (older_trans before.seen submit.old.list submit.new.list submit.earlier (older_by submit.old submit.new own says submit.goes))
