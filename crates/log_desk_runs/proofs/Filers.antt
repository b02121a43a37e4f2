-- Which rows filed the entries that the desks added: those that the list at the end notes of the newest.
use Rattle.std.proofs.Common.{◌≡◌, ◌⊎◌, inl, inr, ℕ, zero, suc, ◌+◌, ◌-◌, ◌<◌, ◌≤◌, Bool, List, [], ◌∷◌, ◌++◌, Option, Some, None, Result, Ok, Err, length, take, reverse, get_or, length-append, refl, sym, ap, ◌∙◌, subst, arith}
use Rattle.std.specs.Prelude.{Contains}
use Rattle.std.specs.List.{flat_map}
use Rattle.std.proofs.lemmas.List.Elements.{Contains-append_cases}
use Rattle.std.proofs.lemmas.List.Sorted.{Contains-permutation}
use Rattle.log_machine.specs.Scheme.{Semantics, Scheme}
use Rattle.log_machine.specs.Texts.{Texts}
use Rattle.log_machine.specs.Submits.{with_entry}
use Rattle.log_desks.specs.Answered.{Answer, Ends, admitted_of, admitted_row, placed}
use Rattle.log_desks.specs.Desks.{DeskView, left_in, mine_in, settled_in}
use Rattle.log_machine.specs.Names.{filed_by, filed_list, no_row, rows_of}
use Rattle.log_machine.specs.declared.names.Filed.{Filed}
use Rattle.log_machine.specs.declared.names.RowName.{RowName}
use Rattle.log_desks.specs.declared.stop.DeskEnd.{DeskEnd}
use Rattle.log_desks.specs.declared.stop.DeskEnd.TheVariants.{Open, Done, Stopped}
use Rattle.log_desks.specs.declared.stop.DeskStop.TheVariants.{DiskFault, NoMemory}
use Rattle.log_desks.specs.Shares.{stand_of, RecoversBetween}
use Rattle.log_lock.specs.Passes.{Known, numbered}
use Rattle.log_lock.specs.declared.turned.Snapshot.{Snapshot}
use Rattle.io_traits.specs.DiskState.{EachMoment, IsHonest}
use Rattle.io_traits.specs.declared.disk.Disk.{Ghosts as DiskGhosts}
use Rattle.io_traits.specs.declared.sink.Sink.{Ghosts as SinkGhosts}
use Rattle.log_machine.specs.Kept.{IsSound}
use Rattle.log_session.specs.Links.{IsOpened}
use Rattle.log_desk_runs.proofs.Reading.{some_of}
use Rattle.log_desk_runs.specs.DeskTexts.{admitted_text, desks_status, desks_text}
use Rattle.log_desk_runs.specs.Names.{names_of}
use Rattle.log_desk_runs.specs.Reads.{Reads}
use Rattle.log_desk_runs.specs.RanDesksOn.{AreNew, AreRead, FilesAll, FilesOwn, HasFiled, worked}
use Rattle.log_runs.specs.Ends.{EndsWith}

module _ {E : Type 0} where
  -- The newest entries of a list whose rows are noted, where each of them was filed by a desk.
  pub noted : (history : List E) (log : List RowName) (added rest : List (Filed E)) → filed_list history log ≡ added ++ rest
      → ((k : ℕ) (d : Filed E) → k < length added → (get_or added k d).by.desk ≡ 0 → ⊥) → take (length added) log ≡ rows_of added
  noted history log [] rest is by = refl
  noted [] log (f ∷ added) rest is by = absurd (let bad : ⊥ = cc in bad)
  noted (e ∷ history) [] (f ∷ added) rest is by =
      let one : record { entry = e; by = no_row } ≡ f = cc in
      absurd (by 0 f (omega arith) (ap (λ (g : Filed E). g.by.desk) (sym one)))
  noted (e ∷ history) (row ∷ log) (f ∷ added) rest is by =
      let one : record { entry = e; by = row } ≡ f = cc in
      let more : filed_list history log ≡ added ++ rest = cc in
      ap (λ (g : Filed E). g.by ∷ take (length added) log) one ∙ ap (λ l. f.by ∷ l) (noted history log added rest more (λ k d lt. by (suc k) d (omega (arith, lt))))

  -- each entry that was added is among those that are numbered
  pub numbered_has : (n : ℕ) (added : List (Filed E)) (k : ℕ) (d : Filed E) → k < length added → (p : ℕ) × Contains (numbered n added) (p, get_or added k d)
  numbered_has n [] k d lt = absurd (omega (arith, lt))
  numbered_has n (f ∷ added) zero d lt = (n + length added + 1, (0, omega arith, refl))
  numbered_has n (f ∷ added) (suc k) d lt =
      let (p, (j, less, is)) = numbered_has n added k d (omega (arith, lt)) in (p, (suc j, omega (arith, less), is))

-- what is in a list of lists is in one of them
abbrev pub IsInOne : {X A : Type 0} → (X → List A) → List X → A → Type 0
IsInOne {X} f xs a = (k : ℕ) × (x : X) × (k < length xs) × (x ≡ get_or xs k x) × Contains (f x) a

in_first : {X A : Type 0} (f : X → List A) (x : X) (xs : List X) (a : A) → (Contains (flat_map f xs) a → IsInOne f xs a) → Contains (f x) a ⊎ Contains (flat_map f xs) a → IsInOne f (x ∷ xs) a
in_first f x xs a more (inl here) = (0, x, omega arith, refl, here)
in_first f x xs a more (inr later) = let (k, y, lt, is, there) = more later in (suc k, y, omega (arith, lt), is, there)

pub in_one : {X A : Type 0} (f : X → List A) (xs : List X) (a : A) → Contains (flat_map f xs) a → IsInOne f xs a
in_one f [] a (k, lt, is) = absurd (omega (arith, lt))
in_one f (x ∷ xs) a has = in_first f x xs a (in_one f xs a) (Contains-append_cases (f x) (flat_map f xs) a has)

own_by : {Entry : Type 0} (by : RowName) (o : Option Entry) (f : Filed Entry) → filed_by o by ≡ Some f → f.by ≡ by
own_by by None f is = absurd (let bad : ⊥ = cc in bad)
own_by {Entry} by (Some e) f is = let one : record { entry = e; by = by } ≡ f = cc in sym (ap (λ (g : Filed Entry). g.by) one)

module _ {Entry Operation Response Error : Type 0} (semantics : Semantics Entry Operation Response) (own : Operation → Option Entry) where
  -- what a desk admitted is its own rows'
  row_by : (by : RowName) (past : List Entry) (row : Result Operation Error) (entry : ℕ × Filed Entry) → Contains (admitted_row semantics by past row) entry → entry.1.by ≡ by
  row_by by past (Err error) entry (k, lt, is) = absurd (omega (arith, lt))
  row_by by past (Ok operation) entry has = go (semantics.added past operation) has
    where
      go : (o : Option Entry) → Contains (placed (length past + 1) o by) entry → entry.1.by ≡ by
      go None (k, lt, is) = absurd (omega (arith, lt))
      go (Some e) (zero, lt, is) = sym (ap (λ (p : ℕ × Filed Entry). p.1.by) is)
      go (Some e) (suc k, lt, is) = absurd (omega (arith, lt))

  mine_first : (desk number : ℕ) (a : Answer Entry Operation Error) (answers : List (Answer Entry Operation Error)) (entry : ℕ × Filed Entry)
      → (Contains (admitted_of semantics desk (number + 1) answers) entry → entry.1.by.desk ≡ desk)
      → Contains (admitted_row semantics (record { desk = desk; row = number }) a.past a.row) entry ⊎ Contains (admitted_of semantics desk (number + 1) answers) entry → entry.1.by.desk ≡ desk
  mine_first desk number a answers entry more (inl here) = ap (λ (r : RowName). r.desk) (row_by (record { desk = desk; row = number }) a.past a.row entry here)
  mine_first desk number a answers entry more (inr later) = more later

  mine_by : (desk number : ℕ) (answers : List (Answer Entry Operation Error)) (entry : ℕ × Filed Entry) → Contains (admitted_of semantics desk number answers) entry → entry.1.by.desk ≡ desk
  mine_by desk number [] entry (k, lt, is) = absurd (omega (arith, lt))
  mine_by desk number (a ∷ answers) entry has =
      mine_first desk number a answers entry (mine_by desk (number + 1) answers entry)
      (Contains-append_cases (admitted_row semantics (record { desk = desk; row = number }) a.past a.row) (admitted_of semantics desk (number + 1) answers) entry has)

  -- what a desk left undecided is that of the row at which it ended
  left_by : {Meaning : Type 0} (by : RowName) (ended : DeskEnd) (taken : List (Result Operation Error)) (rest : List Meaning) (known : Known (Filed Entry)) (entry : ℕ × Filed Entry)
      → Ends own by ended taken rest known → Contains known.left entry → entry.1.by ≡ by
  left_by by Open taken rest known entry ends has = absurd (ends.1.0 entry has)
  left_by by Done taken rest known entry ends has = absurd (ends.2.0 entry has)
  left_by by (Stopped (DiskFault undecided)) taken rest known entry ends has = own_by by (own ends.operation) entry.1 (ends.left entry has).1
  left_by by (Stopped NoMemory) taken rest known entry ends has = absurd (ends.0 entry has)

-- The rows of what was added are the newest that the list at the end notes.
module _ {Entry Operation Response Error Lines : Type 0} (semantics : Semantics Entry Operation Response) (own copied : Operation → Option Entry) (texts : Texts Operation Response Error) (untaken : Lines → List texts.Meaning)
    (opening : Snapshot (Filed Entry)) (history : List Entry) (pending : Option Entry) (log : List RowName) (waiting : Option RowName) (faults : ℕ) (honest : Bool) (before after : List (DeskView Entry Lines))
    (filed : HasFiled semantics own copied texts untaken opening (stand_of history pending log waiting faults honest) before after) (numbers : (k : ℕ) (d : DeskView Entry Lines) → k < length before → (get_or before k d).number ≡ k + 1) where
  -- what one desk's pass has was filed by that desk's rows
  of_desk : (j : ℕ) (x : DeskView Entry Lines) (entry : ℕ × Filed Entry) → j < length filed.desks → x ≡ get_or filed.desks j x → Contains (mine_in x.handle) entry ⊎ Contains (left_in x.handle) entry → entry.1.by.desk ≡ 0 → ⊥
  of_desk j x entry lt is has zero_is = go has
    where
      inside : j < length before
      inside = omega (arith, lt, filed.count)

      its : FilesOwn semantics own copied texts untaken opening (get_or before j x) (get_or filed.desks j x)
      its = filed.each j x inside

      handle : x.handle ≡ Some its.known
      handle = ap (λ (v : DeskView Entry Lines). v.handle) is ∙ its.has

      go : Contains (mine_in x.handle) entry ⊎ Contains (left_in x.handle) entry → ⊥
      go (inl mine) =
          let here = subst (λ l. Contains l entry) (ap mine_in handle ∙ its.files.mine) mine in
          let desk = mine_by semantics own (get_or before j x).number 1 its.files.answers entry here in
          omega (arith, desk, zero_is, numbers j x inside)
      go (inr left) =
          let here = subst (λ l. Contains l entry) (ap left_in handle) left in
          let row = left_by semantics own _ (get_or filed.desks j x).ended its.files.taken its.files.rest its.known entry its.files.ends here in
          let desk : entry.1.by.desk ≡ (get_or before j x).number = ap (λ (r : RowName). r.desk) row in
          omega (arith, desk, zero_is, numbers j x inside)

  pub rows_noted : take (length filed.ran.added) log ≡ rows_of filed.ran.added
  rows_noted = noted history log filed.ran.added opening.list filed.ran.list by
    where
      by : (k : ℕ) (d : Filed Entry) → k < length filed.ran.added → (get_or filed.ran.added k d).by.desk ≡ 0 → ⊥
      by k d lt zero_is = go (Contains-append_cases mines settled entry (Contains-permutation (numbered (length opening.list) filed.ran.added) (mines ++ settled) entry filed.ran.once place.1))
        where
          place : (p : ℕ) × Contains (numbered (length opening.list) filed.ran.added) (p, get_or filed.ran.added k d)
          place = numbered_has (length opening.list) filed.ran.added k d lt

          entry : ℕ × Filed Entry
          entry = (place.0, get_or filed.ran.added k d)

          mines : List (ℕ × Filed Entry)
          mines = flat_map (λ (v : DeskView Entry Lines). mine_in v.handle) filed.desks

          settled : List (ℕ × Filed Entry)
          settled = flat_map (λ (v : DeskView Entry Lines). settled_in v.handle) filed.desks

          go : Contains mines entry ⊎ Contains settled entry → ⊥
          go (inl mine) = let (j, x, less, is, there) = in_one (λ (v : DeskView Entry Lines). mine_in v.handle) filed.desks entry mine in of_desk j x entry less is (inl there) zero_is
          go (inr was) = let (j, x, less, is, there) = in_one (λ (v : DeskView Entry Lines). left_in v.handle) filed.desks entry (filed.ran.settled entry was) in of_desk j x entry less is (inr there) zero_is

  pub named : (h : List Entry) (l : List RowName) → length (filed_list h l) ≡ length h
  named [] l = refl
  named (f ∷ h) [] = ap suc (named h [])
  named (f ∷ h) (row ∷ l) = ap suc (named h l)

  pub rows_told : (past : List Entry) → opening.list ≡ filed_list past [] → reverse (take (length history - length past) log) ≡ reverse (rows_of filed.ran.added)
  rows_told past is =
      let whole : length (filed_list history log) ≡ length filed.ran.added + length opening.list = ap length filed.ran.list ∙ length-append filed.ran.added opening.list in
      let now : length (filed_list history log) ≡ length history = named history log in
      let then : length opening.list ≡ length past = ap length is ∙ named past [] in
      let count : length history - length past ≡ length filed.ran.added = omega (arith, whole, now, then) in
      ap (λ (n : ℕ). reverse (take n log)) count ∙ ap reverse rows_noted

-- the desks of inputs that were read are numbered from 1
numbers_of : {I RowFormat Entry Lines Meaning : Type 0} (untaken : Lines → List Meaning) (rows_of : RowFormat → List ℕ → List Meaning) (reads : Reads I RowFormat) (old new : List I) (desks : List (DeskView Entry Lines)) → AreRead untaken rows_of reads (length old) old new desks → (k : ℕ) (d : DeskView Entry Lines) → k < length desks → (get_or desks k d).number ≡ k + 1
numbers_of untaken rows_of reads old new desks read k d lt =
    let inside : k < length old = omega (arith, lt, read.count) in
    (read.each k (some_of old k inside) d inside).numbered

pub new_desks : {I RowFormat Entry Lines Meaning : Type 0} (untaken : Lines → List Meaning) (rows_of : RowFormat → List ℕ → List Meaning) (reads : Reads I RowFormat) (old new : List I) (desks : List (DeskView Entry Lines)) → length old ≤ 16 → AreRead untaken rows_of reads (length old) old new desks → AreNew desks
new_desks untaken rows_of reads old new desks few read = record {
  few = omega (arith, few, read.count);
  numbered = numbers_of untaken rows_of reads old new desks read;
  unbegun = λ k d lt. let inside : k < length old = omega (arith, lt, read.count) in (read.each k (some_of old k inside) d inside).unbegun;
}

-- the desks filed, and what they did was told
pub files_worked : {D K Entry Operation Response Error Lines : Type 0} (scheme : Scheme Entry) (semantics : Semantics Entry Operation Response) (own copied : Operation → Option Entry) (same : Entry → Entry → Bool) (texts : Texts Operation Response Error) (untaken : Lines → List texts.Meaning)
    (disk : DiskGhosts D) (sink : SinkGhosts K) (old at closed new : D) (before after : List (DeskView Entry Lines)) (past history : List Entry) (pending : Option Entry) (log : List RowName) (waiting : Option RowName)
    (front status : ℕ) (out out' : K) → AreNew before → IsOpened disk scheme past old at → disk.faults at ≡ disk.faults old
    → HasFiled semantics own copied texts untaken (stand_of past None [] None (disk.faults at) (disk.tells at).honest) (stand_of history pending log waiting (disk.faults closed) (disk.tells closed).honest) before after
    → new ≡ closed → (IsHonest (disk.tells new) → IsSound scheme (disk.tells new) history pending)
    → (IsHonest (disk.tells closed) → EachMoment (disk.tells at) (disk.tells closed) (RecoversBetween scheme past (with_entry pending history)))
    → front ≡ length past
    → EndsWith sink (desks_text after ++ admitted_text (front + 1) (names_of same after (front + 1) (reverse (take (length history - front) log)))) (desks_status after) out out' status → FilesAll scheme semantics own copied same texts untaken disk sink old new before out out' status
files_worked {D} scheme semantics own copied same texts untaken disk sink old at closed new before after past history pending log waiting front status out out' fresh opened unmoved was_filed new_is sound moments front_is ends =
    let filed = subst (λ (n : ℕ). HasFiled semantics own copied texts untaken (stand_of past None [] None n (disk.tells at).honest) (stand_of history pending log waiting (disk.faults closed) (disk.tells closed).honest) before after) unmoved was_filed in
    subst (λ (d : D). (IsHonest (disk.tells d) → IsSound scheme (disk.tells d) history pending) → FilesAll scheme semantics own copied same texts untaken disk sink old d before out out' status) (sym new_is)
    (λ is_sound. worked after past history pending log waiting at status opened filed is_sound moments
    (subst (λ rows. EndsWith sink (desks_text after ++ admitted_text (length past + 1) (names_of same after (length past + 1) rows)) (desks_status after) out out' status)
    (rows_told semantics own copied texts untaken (stand_of past None [] None (disk.faults old) (disk.tells at).honest) history pending log waiting (disk.faults closed) (disk.tells closed).honest before after filed fresh.numbered past refl)
    (subst (λ (n : ℕ). EndsWith sink (desks_text after ++ admitted_text (n + 1) (names_of same after (n + 1) (reverse (take (length history - n) log)))) (desks_status after) out out' status) front_is ends)))
    sound
