-- A round that was planned on a list that was opened, by what each call tells of it.
use Rattle.std.proofs.Common.{◌≡◌, ℕ, Bool, IsTrue, List, ◌++◌, map, Result, Err, sym, subst}
use Rattle.std.proofs.lemmas.List.{append-nil}
use Rattle.io_traits.specs.Whole.{IsCutShort}
use Rattle.io_traits.specs.declared.disk.Disk.{Ghosts}
use Rattle.log_machine.specs.Scheme.{Scheme, Semantics}
use Rattle.log_machine.specs.Texts.{Texts}
use Rattle.log_session.specs.Asks.{rows_of_asks}
use Rattle.log_session.specs.Links.{IsOpened}
use Rattle.log_session.specs.Planned.{Closes}
use Rattle.log_session.specs.Sessions.{ended_filing}
use Rattle.log_session.specs.declared.stop.FileStop.{FileStop}
use Rattle.log_session.specs.declared.stop.FileStop.TheVariants.{Write}
use Rattle.log_session.specs.declared.stop.SessionStop.TheVariants.{Filing}
use Rattle.work_rounds.specs.Headed.{Headed, unheaded, filed}

module _ {D Entry Operation Response Error : Type 0} (disk : Ghosts D) (scheme : Scheme Entry) (semantics : Semantics Entry Operation Response) (texts : Texts Operation Response Error) (plans : List Entry → List ℕ → List Operation → List ℕ → Type 0) where
  module _ {past list : List Entry} (known : list ≡ past) {heading spelled : List ℕ} (head : spelled ≡ heading) where
    -- the heading was cut short, and the disk given back
    pub unheaded_as : {old at given : D} → given ≡ at → IsOpened disk scheme past old at → {left : List texts.Meaning} {closing : List ℕ}
        → (operations : List Operation) × (left ≡ map texts.said (rows_of_asks operations)) × plans list heading operations closing
        → {honest : Bool} {before after : List ℕ} → (IsTrue honest → IsCutShort spelled before after)
        → Headed disk scheme semantics texts plans old given (record { honest = honest; before = before; after = after }) (Err (Filing Write))
    unheaded_as {old} back opened {left} {closing} (operations, said, planned) {honest} {before} {after} cut =
        unheaded past heading operations closing
        (subst (λ (d : D). IsOpened disk scheme past old d) (sym back) opened)
        (subst (λ (h : List Entry). plans h heading operations closing) known planned)
        (λ is. subst (λ (t : List ℕ). IsCutShort heading t after) (sym (append-nil before)) (subst (λ (l : List ℕ). IsCutShort l before after) head (cut is)))

    -- the heading was written, and the round filed behind it
    pub filed_as : {closing said : List ℕ} → said ≡ closing → {old at new given : D} → given ≡ new → IsOpened disk scheme past old at → {left : List texts.Meaning}
        → (operations : List Operation) × (left ≡ map texts.said (rows_of_asks operations)) × plans list heading operations closing
        → {honest same : Bool} → same ≡ honest → {before text after : List ℕ} → (IsTrue honest → text ≡ before ++ spelled)
        → (ended : Result Unit FileStop) → Closes disk scheme semantics texts past at new (record { honest = same; before = text; after = after }) left said ended
        → Headed disk scheme semantics texts plans old given (record { honest = honest; before = before; after = after }) (ended_filing ended)
    filed_as {closing} {said} closed {old} {at} {new} back opened {left} (operations, are, planned) {honest} {same} sincere {before} {text} {after} wrote ended closes =
        filed past at heading operations closing text ended opened
        (subst (λ (h : List Entry). plans h heading operations closing) known planned)
        (λ is. subst (λ (l : List ℕ). text ≡ before ++ l) head (wrote is))
        (subst (λ (d : D). Closes disk scheme semantics texts past at d (record { honest = honest; before = text; after = after }) (map texts.said (rows_of_asks operations)) closing ended) (sym back)
        (subst (λ (b : Bool). Closes disk scheme semantics texts past at new (record { honest = b; before = text; after = after }) (map texts.said (rows_of_asks operations)) closing ended) sincere
        (subst (λ (t : List ℕ). Closes disk scheme semantics texts past at new (record { honest = same; before = text; after = after }) (map texts.said (rows_of_asks operations)) t ended) closed
        (subst (λ (l : List texts.Meaning). Closes disk scheme semantics texts past at new (record { honest = same; before = text; after = after }) l said ended) are closes))))
