-- How a turn of a shared list goes, by how that of its kept list went.
use Rattle.std.proofs.Common.{◌≡◌, ◌⊎◌, inl, inr, ℕ, suc, ◌+◌, ◌≤◌, Bool, true, false, IsTrue, List, [], ◌∷◌, Option, Some, None, length, refl, sym, ap, ap₂, ◌∙◌, subst, arith}
use Rattle.std.specs.Prelude.{is_some, IsSome, if◌then◌else◌}
use Rattle.io_traits.specs.Faults.{Rose}
use Rattle.log_machine.specs.Scheme.{Semantics}
use Rattle.log_machine.specs.Submits.{Submits, IsAnswered, IsLeftUndecided, IsUnsettled, with_entry, is_fault}
use Rattle.log_machine.specs.declared.reply.LogReply.{LogReply}
use Rattle.log_machine.specs.declared.reply.LogReply.TheVariants.{Answered, DiskFault, NoMemory}
use Rattle.log_lock.specs.declared.turned.Snapshot.{Snapshot}
use Rattle.log_lock.specs.Turning.{Admitted, Undecided, Nothing, Goes, stays, stays_pending, settles, fails, admits, leaves, RoseBy, faults_in, settled_list}
use Rattle.log_machine.specs.declared.names.RowName.{RowName}
use Rattle.log_machine.specs.declared.names.Filed.{Filed}
use Rattle.log_machine.specs.Names.{filed_list, filed_by, filed_pending, entries_of, entry_of}
use Rattle.log_desks.specs.Notes.{says_of, Notes}
use Rattle.log_desks.specs.Shares.{stand_of, AreBoth, IsTurn}

no_some : {A : Type 0} (o : Option A) → IsSome o → is_some o ≡ false → ⊥
no_some o some none = cc

one : (old new : ℕ) → Rose old new → RoseBy 1 old new
one old new (inl lt) = inl (omega (arith, lt))
one old new (inr last) = inr (omega (arith, last))

module _ {E : Type 0} where
  pub entries_filed : (history : List E) (log : List RowName) → entries_of (filed_list history log) ≡ history
  entries_filed [] log = refl
  entries_filed (e ∷ past) [] = ap (λ l. e ∷ l) (entries_filed past [])
  entries_filed (e ∷ past) (by ∷ log) = ap (λ l. e ∷ l) (entries_filed past log)

  pub entry_filed : (pending : Option E) (waiting : Option RowName) → entry_of (filed_pending pending waiting) ≡ pending
  entry_filed None None = refl
  entry_filed None (Some by) = refl
  entry_filed (Some e) None = refl
  entry_filed (Some e) (Some by) = refl

  pub length_filed : (history : List E) (log : List RowName) → length (filed_list history log) ≡ length history
  length_filed [] log = refl
  length_filed (e ∷ past) [] = ap (λ n. suc n) (length_filed past [])
  length_filed (e ∷ past) (by ∷ log) = ap (λ n. suc n) (length_filed past log)

  -- what is undecided is settled, in both lists at once
  settled_filed : (history : List E) (was : Option E) (log : List RowName) (waiting : Option RowName) (faults : ℕ) (honest : Bool) → AreBoth was waiting
      → filed_list (with_entry was history) (with_entry waiting log) ≡ settled_list (stand_of history was log waiting faults honest)
  settled_filed history None log None faults honest both = refl
  settled_filed history None log (Some by) faults honest both = absurd (let no : ⊥ = cc in no)
  settled_filed history (Some e) log None faults honest both = absurd (let no : ⊥ = cc in no)
  settled_filed history (Some e) log (Some by) faults honest both = refl

  pending_some : (e : E) (by : RowName) (pending : Option E) (waiting : Option RowName) → pending ≡ Some e → waiting ≡ Some by → filed_pending pending waiting ≡ Some (record { entry = e; by = by })
  pending_some e by pending waiting is at = ap₂ (λ p w. filed_pending p w) is at

  pending_none : (pending : Option E) (waiting : Option RowName) → pending ≡ None → waiting ≡ None → filed_pending pending waiting ≡ None
  pending_none pending waiting is at = ap₂ (λ p w. filed_pending p w) is at

module _ {Entry Operation Response : Type 0} (semantics : Semantics Entry Operation Response) (own : Operation → Option Entry) (adds : Response → Bool) (own_added : (past : List Entry) (operation : Operation) (entry : Entry) → semantics.added past operation ≡ Some entry → own operation ≡ Some entry) (adds_added : (past : List Entry) (operation : Operation) → adds (semantics.answer past operation) ≡ is_some (semantics.added past operation)) where
  module _ (history : List Entry) (was : Option Entry) (log : List RowName) (waiting : Option RowName) (faults : ℕ) (honest : Bool) (history' : List Entry) (pending' : Option Entry) (log' : List RowName) (waiting' : Option RowName) (faults' : ℕ) (honest' : Bool) (operation : Operation) (by : RowName) where
    abbrev old : Snapshot (Filed Entry)
    old = stand_of history was log waiting faults honest

    abbrev new : Snapshot (Filed Entry)
    new = stand_of history' pending' log' waiting' faults' honest'

    answered : (response : Response) (front : ℕ) → AreBoth was waiting → IsAnswered semantics (with_entry was history) operation response front history' pending'
        → log' ≡ with_entry (if adds response then Some by else None) (with_entry waiting log) → waiting' ≡ None
        → Goes (filed_by (own operation) by) old (if adds response then Admitted (front + 1) else Nothing) new
    answered response front both t noted none = go (semantics.added (with_entry was history) operation) refl
      where
        go : (added : Option Entry) → semantics.added (with_entry was history) operation ≡ added → Goes (filed_by (own operation) by) old (if adds response then Admitted (front + 1) else Nothing) new
        go None is =
            let no : adds response ≡ false = ap adds t.answer ∙ (adds_added (with_entry was history) operation ∙ ap is_some is) in
            let list : history' ≡ with_entry was history = t.list ∙ ap (λ a. with_entry a (with_entry was history)) is in
            let rows : log' ≡ with_entry waiting log = noted ∙ ap (λ b. with_entry (if b then Some by else None) (with_entry waiting log)) no in
            settles (ap₂ filed_list list rows ∙ settled_filed history was log waiting faults honest both) (pending_none pending' waiting' t.decided none) (ap (λ b. if b then Admitted (front + 1) else Nothing) no)
        go (Some e) is =
            let yes : adds response ≡ true = ap adds t.answer ∙ (adds_added (with_entry was history) operation ∙ ap is_some is) in
            let list : history' ≡ e ∷ with_entry was history = t.list ∙ ap (λ a. with_entry a (with_entry was history)) is in
            let rows : log' ≡ by ∷ with_entry waiting log = noted ∙ ap (λ b. with_entry (if b then Some by else None) (with_entry waiting log)) yes in
            let grown : length (filed_list history' log') ≡ front + 1 = omega (arith, length_filed history' log', ap length list, t.seen) in
            admits (record { entry = e; by = by }) (ap (λ o. filed_by o by) (own_added (with_entry was history) operation e is))
            (ap₂ filed_list list rows ∙ ap (λ l. record { entry = e; by = by } ∷ l) (settled_filed history was log waiting faults honest both))
            (pending_none pending' waiting' t.decided none) (ap (λ b. if b then Admitted (front + 1) else Nothing) yes ∙ ap Admitted (sym grown))

    left_here : (position : ℕ) → AreBoth was waiting → IsLeftUndecided semantics (with_entry was history) operation position history' pending' → log' ≡ with_entry waiting log → waiting' ≡ Some by
        → Goes (filed_by (own operation) by) old (Undecided position) new
    left_here position both t noted some = go (semantics.added (with_entry was history) operation) refl t.adds
      where
        go : (added : Option Entry) → semantics.added (with_entry was history) operation ≡ added → IsSome added → Goes (filed_by (own operation) by) old (Undecided position) new
        go None is adds_one = absurd (let no : ⊥ = cc in no)
        go (Some e) is adds_one =
            leaves (record { entry = e; by = by }) (ap (λ o. filed_by o by) (own_added (with_entry was history) operation e is))
            (ap₂ filed_list t.list noted ∙ settled_filed history was log waiting faults honest both)
            (pending_some e by pending' waiting' (t.undecided ∙ is) some)
            (ap Undecided (t.next ∙ ap (λ n. n + 1) (sym (length_filed history' log' ∙ ap length t.list))))

    still : (position : ℕ) → AreBoth was waiting → IsUnsettled history was position history' pending' → log' ≡ log → waiting' ≡ waiting → Goes (filed_by (own operation) by) old (Undecided position) new
    still position both t noted same = go was waiting refl refl both t.some
      where
        go : (w : Option Entry) (b : Option RowName) → was ≡ w → waiting ≡ b → AreBoth w b → IsSome w → Goes (filed_by (own operation) by) old (Undecided position) new
        go None b is at pair some = absurd (let no : ⊥ = cc in no)
        go (Some e) None is at pair some = absurd (let no : ⊥ = cc in no)
        go (Some e) (Some row) is at pair some =
            stays_pending (record { entry = e; by = row }) (pending_some e row was waiting is at) (ap₂ filed_list t.list noted)
            (pending_some e row pending' waiting' (t.undecided ∙ is) (same ∙ at))
            (ap Undecided (t.next ∙ ap (λ n. n + 1) (sym (length_filed history' log' ∙ ap length t.list))))

    -- an unsettled entry is named by the place past the list, and one that is newly undecided by a later one where another was settled
    undecided : (position : ℕ) → AreBoth was waiting → IsUnsettled history was position history' pending' ⊎ IsLeftUndecided semantics (with_entry was history) operation position history' pending'
        → Notes adds by (length history) (DiskFault (Some position)) log waiting log' waiting' → Goes (filed_by (own operation) by) old (Undecided position) new
    undecided position both t noted = go was waiting refl refl both t noted
      where
        go : (w : Option Entry) (b : Option RowName) → was ≡ w → waiting ≡ b → AreBoth was waiting → IsUnsettled history was position history' pending' ⊎ IsLeftUndecided semantics (with_entry was history) operation position history' pending'
            → Notes adds by (length history) (DiskFault (Some position)) log waiting log' waiting' → Goes (filed_by (own operation) by) old (Undecided position) new
        go w b is at pair (inl u) (inl (some, place, rows, row)) = still position pair u rows row
        go w b is at pair (inl u) (inr (inl none, rows, row)) = absurd (let no : is_some waiting ≡ false = ap is_some none in no_some was u.some (sym pair ∙ no))
        go w b is at pair (inl u) (inr (inr other, rows, row)) = absurd (other u.next)
        go None b is at pair (inr l) (inl (some, place, rows, row)) = absurd (no_some waiting some (pair ∙ ap is_some is))
        go (Some e) b is at pair (inr l) (inl (some, place, rows, row)) =
            let long : length (with_entry was history) ≡ suc (length history) = ap (λ o. length (with_entry o history)) is in
            absurd (omega (arith, place, l.next, long))
        go w b is at pair (inr l) (inr (why, rows, row)) = left_here position pair l rows row

    pub goes : AreBoth was waiting → (reply : LogReply Response) → Submits semantics history was operation reply history' pending' → Notes adds by (length history) reply log waiting log' waiting'
        → Goes (filed_by (own operation) by) old (says_of adds reply) new
    goes both (Answered response front) t (noted, none) = answered response front both t noted none
    goes both (DiskFault None) t (noted, none) = fails (ap₂ filed_list t.list noted ∙ settled_filed history was log waiting faults honest both) (pending_none pending' waiting' t.decided none) refl
    goes both (DiskFault (Some position)) t noted = undecided position both t noted
    goes both NoMemory t (noted, same) = stays (ap₂ filed_list t.list noted) (ap₂ (λ p w. filed_pending p w) t.undecided same) refl

    pub is_turn : (reply : LogReply Response) → Submits semantics history was operation reply history' pending' → IsTurn semantics old operation reply new
    is_turn reply t =
        subst (λ h. Submits semantics h (entry_of old.pending) operation reply (entries_of new.list) (entry_of new.pending)) (sym (entries_filed history log))
        (subst (λ w. Submits semantics history w operation reply (entries_of new.list) (entry_of new.pending)) (sym (entry_filed was waiting))
        (subst (λ h. Submits semantics history was operation reply h (entry_of new.pending)) (sym (entries_filed history' log'))
        (subst (λ w. Submits semantics history was operation reply history' w) (sym (entry_filed pending' waiting')) t)))

    -- a row waits then exactly where an entry is undecided then
    pub both_after : AreBoth was waiting → (reply : LogReply Response) → Submits semantics history was operation reply history' pending' → Notes adds by (length history) reply log waiting log' waiting' → AreBoth pending' waiting'
    both_after both (Answered response front) t (noted, none) = ap is_some none ∙ sym (ap is_some t.decided)
    both_after both (DiskFault None) t (noted, none) = ap is_some none ∙ sym (ap is_some t.decided)
    both_after both (DiskFault (Some position)) (inl u) (inl (some, place, rows, row)) = ap is_some row ∙ (both ∙ sym (ap is_some u.undecided))
    both_after both (DiskFault (Some position)) (inl u) (inr (why, rows, row)) = ap is_some row ∙ sym (ap is_some u.undecided ∙ u.some)
    both_after both (DiskFault (Some position)) (inr l) (inl (some, place, rows, row)) = (ap is_some row ∙ some) ∙ sym (ap is_some l.undecided ∙ l.adds)
    both_after both (DiskFault (Some position)) (inr l) (inr (why, rows, row)) = ap is_some row ∙ sym (ap is_some l.undecided ∙ l.adds)
    both_after both NoMemory t (noted, same) = ap is_some same ∙ (both ∙ sym (ap is_some t.undecided))

  -- a fault raised the disk's count
  pub rose : (reply : LogReply Response) (before after : ℕ) → before ≤ after → (IsTrue (is_fault reply) → Rose before after) → RoseBy (faults_in (says_of adds reply)) before after
  rose (Answered response front) before after later cause = go (adds response)
    where
      go : (b : Bool) → RoseBy (faults_in (if b then Admitted (front + 1) else Nothing)) before after
      go true = inl (omega (arith, later))
      go false = inl (omega (arith, later))
  rose (DiskFault None) before after later cause = one before after (cause refl)
  rose (DiskFault (Some position)) before after later cause = one before after (cause refl)
  rose NoMemory before after later cause = inl (omega (arith, later))
