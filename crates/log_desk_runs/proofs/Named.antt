-- Which rows filed what stands.
use Rattle.std.proofs.Common.{◌≡◌, ◌⊎◌, inl, inr, ℕ, ◌+◌, ◌<◌, ◌≤◌, List, [], ◌∷◌, ◌++◌, length, get_or, Option, Some, None, Result, Ok, sym, ap, ◌∙◌, subst, arith}
use Rattle.std.proofs.lemmas.List.{length-map}
use Rattle.std.proofs.lemmas.List.Elements.{Contains-append_cases}
use Rattle.std.proofs.lemmas.List.Sorted.{Contains-permutation}
use Rattle.std.specs.List.{flat_map}
use Rattle.std.specs.Prelude.{Contains}
use Rattle.log_lock.specs.Passes.{IsOlder, Known, numbered}
use Rattle.log_lock.specs.declared.turned.Snapshot.{Snapshot}
use Rattle.log_desks.specs.Answered.{Answer, Ends, Follows}
use Rattle.log_desks.specs.Desks.{DeskView, all_shown, left_in, mine_in, seen_in, settled_in, shown_of}
use Rattle.log_machine.specs.Names.{entries_of, filed_by}
use Rattle.log_machine.specs.Scheme.{Semantics}
use Rattle.log_machine.specs.Texts.{Texts}
use Rattle.log_desk_runs.specs.DesksDone.{HasNamed, by_answer, by_stop}
use Rattle.log_desk_runs.specs.RanDesksOn.{FilesOwn, HasFiled}
use Rattle.log_desk_runs.proofs.Crew.{shown_at}
use Rattle.log_desk_runs.proofs.Filers.{in_one}
use Rattle.log_desk_runs.proofs.Following.{answer_older, answers_rise, entries_older, follows_older, length-entries, older_length, older_trans}
use Rattle.log_machine.specs.declared.names.Filed.{Filed}
use Rattle.log_machine.specs.declared.names.RowName.{RowName}
use Rattle.log_desks.specs.declared.stop.DeskEnd.{DeskEnd}
use Rattle.log_desks.specs.declared.stop.DeskEnd.TheVariants.{Open, Done, Stopped}
use Rattle.log_desks.specs.declared.stop.DeskStop.TheVariants.{DiskFault, NoMemory}

own_filed : {Entry : Type 0} (by : RowName) (o : Option Entry) (f : Filed Entry) → filed_by o by ≡ Some f → (f.by ≡ by) × (o ≡ Some f.entry)
own_filed by None f is = absurd (let bad : ⊥ = cc in bad)
own_filed {Entry} by (Some e) f is =
    let one : record { entry = e; by = by } ≡ f = cc in
    (sym (ap (λ (g : Filed Entry). g.by) one), ap (λ (g : Filed Entry). Some g.entry) one)

-- what a desk left undecided is the entry of the row at which it ended, and its last line names the position
pub undecided_at : {Entry Operation Error Meaning : Type 0} (own : Operation → Option Entry) (by : RowName) (ended : DeskEnd) (taken : List (Result Operation Error)) (rest : List Meaning) (known : Known (Filed Entry)) (entry : ℕ × Filed Entry)
    → Ends own by ended taken rest known → Contains known.left entry
    → (ended ≡ Stopped (DiskFault (Some entry.0))) × (entry.1.by ≡ by) × (operation : Operation) × (taken ≡ Ok operation ∷ []) × (own operation ≡ Some entry.1.entry)
undecided_at own by Open taken rest known entry ends has = absurd (ends.1.0 entry has)
undecided_at own by Done taken rest known entry ends has = absurd (ends.2.0 entry has)
undecided_at own by (Stopped (DiskFault undecided)) taken rest known entry ends has =
    let (named, is) = ends.left entry has in
    let filed = own_filed by (own ends.operation) entry.1 is in
    (ap (λ u. Stopped (DiskFault u)) named, filed.0, ends.operation, ends.row, filed.1)
undecided_at own by (Stopped NoMemory) taken rest known entry ends has = absurd (ends.0 entry has)

module _ {Entry Operation Response Error Lines : Type 0} (semantics : Semantics Entry Operation Response) (own copied : Operation → Option Entry) (texts : Texts Operation Response Error) (untaken : Lines → List texts.Meaning)
    (opening closed : Snapshot (Filed Entry)) (before after : List (DeskView Entry Lines)) (filed : HasFiled semantics own copied texts untaken opening closed before after) where
  -- what one desk's pass has is that of its rows
  pub of_desk : (k : ℕ) (x : DeskView Entry Lines) (entry : ℕ × Filed Entry) → k < length filed.desks → x ≡ get_or filed.desks k x → Contains (mine_in x.handle) entry ⊎ Contains (left_in x.handle) entry
      → (j : ℕ) × (d : DeskView Entry Lines) × (lt : j < length before) × HasNamed (filed.each j d lt) entry
  of_desk k x entry lt is has = (k, x, inside, go has)
    where
      inside : k < length before
      inside = omega (arith, lt, filed.count)

      its : FilesOwn semantics own copied texts untaken opening (get_or before k x) (get_or filed.desks k x)
      its = filed.each k x inside

      handle : x.handle ≡ Some its.known
      handle = ap (λ (v : DeskView Entry Lines). v.handle) is ∙ its.has

      go : Contains (mine_in x.handle) entry ⊎ Contains (left_in x.handle) entry → HasNamed (filed.each k x inside) entry
      go (inl mine) = by_answer (subst (λ l. Contains l entry) (ap mine_in handle ∙ its.files.mine) mine)
      go (inr left) =
          let (ended, by, operation, row, is_own) = undecided_at own _ (get_or filed.desks k x).ended its.files.taken its.files.rest its.known entry its.files.ends (subst (λ l. Contains l entry) (ap left_in handle) left) in
          by_stop (record { operation = operation; taken = row; files = is_own; by = by; ended = ended })

  pub added_named : (entry : ℕ × Filed Entry) → Contains (numbered (length opening.list) filed.ran.added) entry
      → (k : ℕ) × (d : DeskView Entry Lines) × (lt : k < length before) × HasNamed (filed.each k d lt) entry
  added_named entry has = go (Contains-append_cases mines settled entry (Contains-permutation (numbered (length opening.list) filed.ran.added) (mines ++ settled) entry filed.ran.once has))
    where
      mines : List (ℕ × Filed Entry)
      mines = flat_map (λ (v : DeskView Entry Lines). mine_in v.handle) filed.desks

      settled : List (ℕ × Filed Entry)
      settled = flat_map (λ (v : DeskView Entry Lines). settled_in v.handle) filed.desks

      go : Contains mines entry ⊎ Contains settled entry → (k : ℕ) × (d : DeskView Entry Lines) × (lt : k < length before) × HasNamed (filed.each k d lt) entry
      go (inl mine) = let (j, x, less, is, there) = in_one (λ (v : DeskView Entry Lines). mine_in v.handle) filed.desks entry mine in of_desk j x entry less is (inl there)
      go (inr was) = let (j, x, less, is, there) = in_one (λ (v : DeskView Entry Lines). left_in v.handle) filed.desks entry (filed.ran.settled entry was) in of_desk j x entry less is (inr there)

  -- the list that a desk saw last, between the list before and that at the end
  older_than_seen : (k : ℕ) (d : DeskView Entry Lines) (lt : k < length before) → IsOlder (entries_of opening.list) (entries_of (filed.each k d lt).known.seen)
  older_than_seen k d lt =
      let its = filed.each k d lt in
      follows_older semantics (entries_of opening.list) (entries_of its.known.seen) its.files.answers
      (subst (λ (o : Snapshot (Filed Entry)). Follows semantics (entries_of o.list) its.files.answers (entries_of its.known.seen)) its.opening_is its.files.follows)

  pub seen_in_closed : (k : ℕ) (d : DeskView Entry Lines) (lt : k < length before) → IsOlder (filed.each k d lt).known.seen closed.list
  seen_in_closed k d lt =
      let its = filed.each k d lt in
      subst (λ l. IsOlder l closed.list) (ap seen_in its.has) (filed.ran.seen k d (omega (arith, lt, filed.count)))

  pub answered_in_closed : (k : ℕ) (d : DeskView Entry Lines) (lt : k < length before) (i : ℕ) (a : Answer Entry Operation Error) → i < length (filed.each k d lt).files.answers
      → IsOlder (get_or (filed.each k d lt).files.answers i a).past (entries_of closed.list)
  answered_in_closed k d lt i a less =
      let its = filed.each k d lt in
      older_trans (get_or its.files.answers i a).past (entries_of its.known.seen) (entries_of closed.list)
      (answer_older semantics (entries_of its.known.opening.list) (entries_of its.known.seen) its.files.answers its.files.follows i a less)
      (entries_older its.known.seen closed.list (seen_in_closed k d lt))

  -- how a desk ended is shown, also of a desk that gave its pass back
  ended_shown : (k : ℕ) (d : DeskView Entry Lines) → k < length after → (get_or after k d).ended ≡ (get_or filed.desks k d).ended
  ended_shown k d lt = ap (λ s. s.5) (shown_at after filed.desks filed.shown k d (omega (arith, lt, sizes)))
    where
      sizes : length after ≡ length filed.desks
      sizes = sym (length-map after shown_of) ∙ (ap length filed.shown ∙ length-map filed.desks shown_of)

  position_named : (by : RowName) (ended : DeskEnd) (taken : List (Result Operation Error)) (rest : List texts.Meaning) (known : Known (Filed Entry)) (position : ℕ)
      → Ends own by ended taken rest known → ended ≡ Stopped (DiskFault (Some position)) → position ≡ length known.seen + 1
  position_named by Open taken rest known position ends is = absurd (let bad : ⊥ = cc in bad)
  position_named by Done taken rest known position ends is = absurd (let bad : ⊥ = cc in bad)
  position_named by (Stopped (DiskFault undecided)) taken rest known position ends is = let same : undecided ≡ Some position = cc in ends.named position same
  position_named by (Stopped NoMemory) taken rest known position ends is = absurd (let bad : ⊥ = cc in bad)

  pub undecided_next : (k : ℕ) (d : DeskView Entry Lines) (position : ℕ) → k < length after → (get_or after k d).ended ≡ Stopped (DiskFault (Some position))
      → (length opening.list < position) × (position ≤ length closed.list + 1)
  undecided_next k d position lt is = (omega (arith, at, more), omega (arith, at, less))
    where
      inside : k < length before
      inside = let same : length (all_shown after) ≡ length (all_shown filed.desks) = ap length filed.shown in
          omega (arith, lt, same, length-map after shown_of, length-map filed.desks shown_of, filed.count)

      its : FilesOwn semantics own copied texts untaken opening (get_or before k d) (get_or filed.desks k d)
      its = filed.each k d inside

      at : position ≡ length its.known.seen + 1
      at = position_named _ (get_or filed.desks k d).ended its.files.taken its.files.rest its.known position its.files.ends (sym (ended_shown k d lt) ∙ is)

      more : length opening.list ≤ length its.known.seen
      more = let le = older_length (entries_of opening.list) (entries_of its.known.seen) (older_than_seen k d inside) in
          omega (arith, le, length-entries opening.list, length-entries its.known.seen)

      less : length its.known.seen ≤ length closed.list
      less = older_length its.known.seen closed.list (seen_in_closed k d inside)

-- no row was answered on fewer filings than one before it
pub fronts_rising : {Entry Operation Response Error Lines : Type 0} (semantics : Semantics Entry Operation Response) (own copied : Operation → Option Entry) (texts : Texts Operation Response Error) (untaken : Lines → List texts.Meaning)
    (opening : Snapshot (Filed Entry)) (before after : DeskView Entry Lines) (its : FilesOwn semantics own copied texts untaken opening before after) (i j : ℕ) (a : Answer Entry Operation Error)
    → i ≤ j → j < length its.files.answers → length (get_or its.files.answers i a).past ≤ length (get_or its.files.answers j a).past
fronts_rising semantics own copied texts untaken opening before after its i j a le lt =
    older_length (get_or its.files.answers i a).past (get_or its.files.answers j a).past
    (answers_rise semantics (entries_of its.known.opening.list) (entries_of its.known.seen) its.files.answers its.files.follows i j a le lt)
