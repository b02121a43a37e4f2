-- The rows that are told of for what desks added.
use Rattle.std.proofs.Common.{◌≡◌, ℕ, zero, suc, ◌+◌, ◌<◌, Bool, true, false, cond, List, [], ◌∷◌, Option, Some, None, Result, Ok, length, get_or, refl, sym, ap, ap₂, ◌∙◌, ◌==◌, subst, arith, eq-eqb, eqb-true}
use Rattle.std.specs.Prelude.{Contains}
use Rattle.std.specs.List.{find}
use Rattle.std.proofs.lemmas.Bool.{and_from, and_parts, false≢true}
use Rattle.std.proofs.lemmas.List.{length-map}
use Rattle.log_machine.specs.Scheme.{Semantics}
use Rattle.log_machine.specs.Texts.{Texts}
use Rattle.log_machine.specs.declared.names.Filed.{Filed}
use Rattle.log_machine.specs.declared.names.RowName.{RowName}
use Rattle.log_desks.specs.Answered.{Ends, kept_of}
use Rattle.log_desks.specs.DeskTexts.{end_row}
use Rattle.log_desks.specs.Desks.{DeskView, shown_of}
use Rattle.log_desks.specs.declared.stop.DeskEnd.{DeskEnd}
use Rattle.log_desks.specs.declared.stop.DeskEnd.TheVariants.{Open, Done, Stopped}
use Rattle.log_desks.specs.declared.stop.DeskStop.TheVariants.{DiskFault, NoMemory}
use Rattle.log_lock.specs.Passes.{Known, numbered}
use Rattle.log_lock.specs.declared.turned.Snapshot.{Snapshot}
use Rattle.log_desk_runs.specs.DesksDone.{HasAdmitted, HasLeft, HasNamed, by_answer, by_stop, IsToldOf, accepted, in_doubt}
use Rattle.log_desk_runs.specs.Names.{end_row_or, ends_at, first_row, is_entry, kept_in, leaves, name_of, names_position, same_row}
use Rattle.log_desk_runs.specs.RanDesksOn.{FilesOwn, HasFiled}
use Rattle.log_desk_runs.proofs.Admits.{admits_at}
use Rattle.log_desk_runs.proofs.Crew.{shown_at}
use Rattle.log_desk_runs.proofs.NameLists.{told_by}
use Rattle.log_desk_runs.proofs.Named.{added_named}

-- ---- the first of a list that passes
pub record IsFirstAt {X : Type 0} (p : X → Bool) (xs : List X) (x : X) : Type 0 where
  pub place : ℕ
  pub inside : place < length xs
  pub is : (d : X) → get_or xs place d ≡ x
  pub handles : p x ≡ true
  pub before : (j : ℕ) (d : X) → j < place → p (get_or xs j d) ≡ false

skipped : {X : Type 0} (p : X → Bool) (y : X) (xs : List X) (n : ℕ) → p y ≡ false → ((j : ℕ) (d : X) → j < n → p (get_or xs j d) ≡ false) → (j : ℕ) (d : X) → j < suc n → p (get_or (y ∷ xs) j d) ≡ false
skipped p y xs n fails before zero d lt = fails
skipped p y xs n fails before (suc j) d lt = before j d (omega (arith, lt))

pub first_at : {X : Type 0} (p : X → Bool) (xs : List X) (x : X) → find p xs ≡ Some x → IsFirstAt p xs x
first_at p [] x is = absurd (let bad : ⊥ = cc in bad)
first_at {X} p (y ∷ xs) x is = go (first_at p xs x) (p y) refl is
  where
    go : (find p xs ≡ Some x → IsFirstAt p xs x) → (b : Bool) → p y ≡ b → cond b (Some y) (find p xs) ≡ Some x → IsFirstAt p (y ∷ xs) x
    go more true handles here =
        let same : y ≡ x = cc in
        record { place = 0; inside = omega arith; is = λ d. same; handles = subst (λ (z : X). p z ≡ true) same handles; before = λ j d lt. absurd (omega (arith, lt)) }
    go more false fails later =
        let f = more later in
        record { place = suc f.place; inside = omega (arith, f.inside); is = f.is; handles = f.handles; before = skipped p y xs f.place fails f.before }

pub none_at : {X : Type 0} (p : X → Bool) (xs : List X) → find p xs ≡ None → (j : ℕ) (d : X) → j < length xs → p (get_or xs j d) ≡ false
none_at p [] is = λ j d lt. absurd (omega (arith, lt))
none_at {X} p (y ∷ xs) is = go (none_at p xs) (p y) refl is
  where
    go : (find p xs ≡ None → (j : ℕ) (d : X) → j < length xs → p (get_or xs j d) ≡ false) → (b : Bool) → p y ≡ b → cond b (Some y) (find p xs) ≡ None
        → (j : ℕ) (d : X) → j < suc (length xs) → p (get_or (y ∷ xs) j d) ≡ false
    go more true handles here = absurd (let bad : ⊥ = cc in bad)
    go more false fails later = skipped p y xs (length xs) fails (more later)

-- ---- how a desk ended
position_named : (position : ℕ) (ended : DeskEnd) → names_position position ended ≡ true → ended ≡ Stopped (DiskFault (Some position))
position_named position Open is = absurd (false≢true is)
position_named position Done is = absurd (false≢true is)
position_named position (Stopped (DiskFault None)) is = absurd (false≢true is)
position_named position (Stopped (DiskFault (Some named))) is = ap (λ (n : ℕ). Stopped (DiskFault (Some n))) (eqb-true named position is)
position_named position (Stopped NoMemory) is = absurd (false≢true is)

names_itself : (position : ℕ) (ended : DeskEnd) → ended ≡ Stopped (DiskFault (Some position)) → names_position position ended ≡ true
names_itself position ended is = ap (names_position position) is ∙ eq-eqb position position refl

same_itself : (by : RowName) → same_row by by ≡ true
same_itself by = and_from (by.desk == by.desk) (by.row == by.row) (eq-eqb by.desk by.desk refl) (eq-eqb by.row by.row refl)

same_rows : (one other : RowName) → same_row one other ≡ true → (one.desk ≡ other.desk) × (one.row ≡ other.row)
same_rows one other is = let (desk, row) = and_parts (one.desk == other.desk) (one.row == other.row) is in (eqb-true one.desk other.desk desk, eqb-true one.row other.row row)

-- the row at which a desk ended in a fault of the disk is an ask
taken_at : {Entry Operation Error Meaning : Type 0} (own : Operation → Option Entry) (by : RowName) (ended : DeskEnd) (taken : List (Result Operation Error)) (rest : List Meaning) (known : Known (Filed Entry)) (position : ℕ)
    → Ends own by ended taken rest known → ended ≡ Stopped (DiskFault (Some position)) → (operation : Operation) × (taken ≡ Ok operation ∷ [])
taken_at own by Open taken rest known position ends is = absurd (let bad : ⊥ = cc in bad)
taken_at own by Done taken rest known position ends is = absurd (let bad : ⊥ = cc in bad)
taken_at own by (Stopped (DiskFault undecided)) taken rest known position ends is = (ends.operation, ends.row)
taken_at own by (Stopped NoMemory) taken rest known position ends is = absurd (let bad : ⊥ = cc in bad)

-- `same` tells whether two entries are one, and a copy of an ask's entry is that entry, for each ask that may add it or for none.
module _ {Entry Operation Response Error Lines : Type 0} (semantics : Semantics Entry Operation Response) (own copied : Operation → Option Entry) (same : Entry → Entry → Bool) (texts : Texts Operation Response Error) (untaken : Lines → List texts.Meaning)
    (own_added : (past : List Entry) (operation : Operation) (entry : Entry) → semantics.added past operation ≡ Some entry → own operation ≡ Some entry)
    (tells : (one other : Entry) → same one other ≡ true → one ≡ other) (itself : (entry : Entry) → same entry entry ≡ true)
    (owned : (operation : Operation) (entry : Entry) → copied operation ≡ Some entry → own operation ≡ Some entry)
    (alike : (one other : Operation) (entry : Entry) → own one ≡ Some entry → own other ≡ Some entry → copied one ≡ copied other) where
  -- what is kept of a row
  kept_is : (entry : Entry) (kept : Option Entry) → is_entry same entry kept ≡ true → kept ≡ Some entry
  kept_is entry None is = absurd (false≢true is)
  kept_is entry (Some other) is = ap (λ (e : Entry). Some e) (sym (tells entry other is))

  is_kept : (entry : Entry) (kept : Option Entry) → kept ≡ Some entry → is_entry same entry kept ≡ true
  is_kept entry kept is = ap (is_entry same entry) is ∙ itself entry

  module _ {opening : Snapshot (Filed Entry)} {old new : DeskView Entry Lines} (its : FilesOwn semantics own copied texts untaken opening old new) (shown : DeskView Entry Lines) (as_new : shown_of shown ≡ shown_of new) where
    -- what is kept of the row that was taken last
    kept_last : (operation : Operation) → its.files.taken ≡ Ok operation ∷ [] → shown.last ≡ copied operation
    kept_last operation taken = ap (λ s. s.6) as_new ∙ (its.files.kept ∙ ap (kept_of copied) taken)

    ended_last : shown.ended ≡ new.ended
    ended_last = ap (λ s. s.5) as_new

    end_row_is : end_row shown ≡ record { desk = old.number; row = new.answered + 1 }
    end_row_is = ap₂ (λ (d r : ℕ). record { desk = d; row = r + 1 }) (ap (λ s. s.0) as_new ∙ its.number) (ap (λ s. s.4) as_new)

    -- a desk that ended at a row that files this, with the position in doubt
    stopped_at : (position : ℕ) (f : Entry) → leaves same position f shown ≡ true → HasLeft its (position, record { entry = f; by = end_row shown })
    stopped_at position f is =
        let (named, files) = and_parts (names_position position shown.ended) (is_entry same f shown.last) is in
        let ended : new.ended ≡ Stopped (DiskFault (Some position)) = sym ended_last ∙ position_named position shown.ended named in
        let (operation, taken) = taken_at own _ new.ended its.files.taken its.files.rest its.known position its.files.ends ended in
        record {
          operation = operation;
          taken = taken;
          files = owned operation f (sym (kept_last operation taken) ∙ kept_is f shown.last files);
          by = end_row_is;
          ended = ended;
        }

    -- and the other way round, where the entry is kept
    left_at : (position : ℕ) (f : Entry) (by : RowName) (left : HasLeft its (position, record { entry = f; by = by })) → copied left.operation ≡ Some f → leaves same position f shown ≡ true
    left_at position f by left kept =
        and_from (names_position position shown.ended) (is_entry same f shown.last) (names_itself position shown.ended (ended_last ∙ left.ended))
        (is_kept f shown.last (kept_last left.operation left.taken ∙ kept))

    -- the row of what was left
    ends_there : (position : ℕ) (f : Filed Entry) → HasLeft its (position, f) → ends_at position f.by shown ≡ true
    ends_there position f left =
        and_from (names_position position shown.ended) (same_row (end_row shown) f.by) (names_itself position shown.ended (ended_last ∙ left.ended))
        (subst (λ (r : RowName). same_row (end_row shown) r ≡ true) (end_row_is ∙ sym left.by) (same_itself (end_row shown)))

  -- ---- the rows that are told of
  module _ (opening closed : Snapshot (Filed Entry)) (before after : List (DeskView Entry Lines)) (filed : HasFiled semantics own copied texts untaken opening closed before after) (numbers : (k : ℕ) (d : DeskView Entry Lines) → k < length before → (get_or before k d).number ≡ k + 1) where
    sizes : length after ≡ length before
    sizes = sym (length-map after shown_of) ∙ (ap length filed.shown ∙ (length-map filed.desks shown_of ∙ filed.count))

    shown : (k : ℕ) (d : DeskView Entry Lines) → k < length before → shown_of (get_or after k d) ≡ shown_of (get_or filed.desks k d)
    shown k d lt = shown_at after filed.desks filed.shown k d (omega (arith, lt, filed.count))

    numbered_after : (k : ℕ) (d : DeskView Entry Lines) → k < length before → (get_or after k d).number ≡ k + 1
    numbered_after k d lt = ap (λ s. s.0) (shown k d lt) ∙ ((filed.each k d lt).number ∙ numbers k d lt)

    -- the desk that ended at a row is that of the row
    place_of : (position : ℕ) (by : RowName) (x : DeskView Entry Lines) (f : IsFirstAt (ends_at position by) after x) → by.desk ≡ f.place + 1
    place_of position by x f =
        let row = same_rows (end_row x) by (and_parts (names_position position x.ended) (same_row (end_row x) by) f.handles).1 in
        sym row.0 ∙ (ap (λ (v : DeskView Entry Lines). v.number) (sym (f.is x)) ∙ numbered_after f.place x (omega (arith, f.inside, sizes)))

    -- no desk ended at a row that was answered
    not_ended : (k : ℕ) (d : DeskView Entry Lines) (lt : k < length before) (entry : ℕ × Filed Entry) → HasAdmitted (filed.each k d lt) entry → (x : DeskView Entry Lines) → find (ends_at entry.0 entry.1.by) after ≡ Some x → ⊥
    not_ended k d lt entry has x is =
        let its = filed.each k d lt in
        let f = first_at (ends_at entry.0 entry.1.by) after x is in
        let (i, operation, less, row_is, files, desk, row) = admits_at semantics own own_added (get_or before k d).number 1 its.files.answers entry has in
        let place : entry.1.by.desk ≡ f.place + 1 = place_of entry.0 entry.1.by x f in
        let number : (get_or before k d).number ≡ k + 1 = numbers k d lt in
        let here : f.place ≡ k = omega (arith, place, desk, number) in
        let ended = (same_rows (end_row x) entry.1.by (and_parts (names_position entry.0 x.ended) (same_row (end_row x) entry.1.by) f.handles).1).1 in
        let counts : x.answered ≡ (get_or filed.desks k d).answered =
        ap (λ (v : DeskView Entry Lines). v.answered) (sym (f.is d)) ∙ (ap (λ (n : ℕ). (get_or after n d).answered) here ∙ ap (λ s. s.4) (shown k d lt)) in
        let counted = its.files.counted in
        omega (arith, less, row, ended, counts, counted)

    -- of a row that was answered it itself is told
    pub told_itself : (k : ℕ) (d : DeskView Entry Lines) (lt : k < length before) (entry : ℕ × Filed Entry) → HasAdmitted (filed.each k d lt) entry → name_of same after entry.0 entry.1.by ≡ entry.1.by
    told_itself k d lt entry has = go (find (ends_at entry.0 entry.1.by) after) refl
      where
        go : (o : Option (DeskView Entry Lines)) → find (ends_at entry.0 entry.1.by) after ≡ o → first_row same after entry.0 entry.1.by (kept_in o) ≡ entry.1.by
        go None is = refl
        go (Some x) is = absurd (not_ended k d lt entry has x is)

    -- a row at which a desk ended: of the first such row
    module _ (k : ℕ) (d : DeskView Entry Lines) (lt : k < length before) (position : ℕ) (f : Entry) (by : RowName) (left : HasLeft (filed.each k d lt) (position, record { entry = f; by = by })) where
      abbrev Told : RowName → Type 0
      Told name = IsToldOf filed position f name

      -- where nothing is kept of it
      unkept : copied left.operation ≡ None → Told by
      unkept none = in_doubt k d lt left (λ kept. absurd (kept none))

      -- where a copy is kept, each desk that was left so has it
      left_too : (j : ℕ) (e : DeskView Entry Lines) (less : j < length before) (other : RowName) (was : HasLeft (filed.each j e less) (position, record { entry = f; by = other }))
          → copied left.operation ≡ Some f → leaves same position f (get_or after j e) ≡ true
      left_too j e less other was kept = left_at (filed.each j e less) (get_or after j e) (shown j e less) position f other was (alike was.operation left.operation f was.files left.files ∙ kept)

      first_left : copied left.operation ≡ Some f → (o : Option (DeskView Entry Lines)) → find (leaves same position f) after ≡ o → Told (end_row_or by o)
      first_left kept None is = absurd (false≢true (sym (none_at (leaves same position f) after is k d (omega (arith, lt, sizes))) ∙ left_too k d lt by left kept))
      first_left kept (Some y) is =
          let p = first_at (leaves same position f) after y is in
          let inside : p.place < length before = omega (arith, p.inside, sizes) in
          in_doubt p.place d inside
          (stopped_at (filed.each p.place d inside) y (ap shown_of (sym (p.is d)) ∙ shown p.place d inside) position f p.handles)
          (λ some j e less other earlier was. false≢true (sym (p.before j e earlier) ∙ left_too j e less other was kept))

      of_kept : (g : Entry) → copied left.operation ≡ Some g → Told (end_row_or by (find (leaves same position g) after))
      of_kept g is =
          let operations : own left.operation ≡ Some g = owned left.operation g is in
          let files = left.files in
          let one : f ≡ g = cc in
          subst (λ (h : Entry). Told (end_row_or by (find (leaves same position h) after))) one
          (first_left (is ∙ ap (λ (h : Entry). Some h) (sym one)) (find (leaves same position f) after) refl)

      by_kept : (o : Option Entry) → copied left.operation ≡ o → Told (first_row same after position by o)
      by_kept None is = unkept is
      by_kept (Some g) is = of_kept g is

      told_first : Told (name_of same after position by)
      told_first = go (find (ends_at position by) after) refl
        where
          go : (o : Option (DeskView Entry Lines)) → find (ends_at position by) after ≡ o → Told (first_row same after position by (kept_in o))
          go None is =
              absurd (false≢true (sym (none_at (ends_at position by) after is k d (omega (arith, lt, sizes)))
              ∙ ends_there (filed.each k d lt) (get_or after k d) (shown k d lt) position (record { entry = f; by = by }) left))
          go (Some x) is =
              let p = first_at (ends_at position by) after x is in
              let place : by.desk ≡ p.place + 1 = place_of position by x p in
              let desk : by.desk ≡ (get_or before k d).number = ap (λ (r : RowName). r.desk) left.by in
              let number : (get_or before k d).number ≡ k + 1 = numbers k d lt in
              let here : p.place ≡ k = omega (arith, place, desk, number) in
              let at : get_or after k d ≡ x = ap (λ (n : ℕ). get_or after n d) (sym here) ∙ p.is d in
              let last : x.last ≡ copied left.operation = ap (λ (v : DeskView Entry Lines). v.last) (sym at) ∙ kept_last (filed.each k d lt) (get_or after k d) (shown k d lt) left.operation left.taken in
              subst (λ o. Told (first_row same after position by o)) (sym last) (by_kept (copied left.operation) refl)

    pub told_of : (entry : ℕ × Filed Entry) → Contains (numbered (length opening.list) filed.ran.added) entry → IsToldOf filed entry.0 entry.1.entry (name_of same after entry.0 entry.1.by)
    told_of entry has = let (k, d, lt, named) = added_named semantics own copied texts untaken opening closed before after filed entry has in go k d lt named
      where
        go : (k : ℕ) (d : DeskView Entry Lines) (lt : k < length before) → HasNamed (filed.each k d lt) entry → IsToldOf filed entry.0 entry.1.entry (name_of same after entry.0 entry.1.by)
        go k d lt (by_answer answer) = accepted k d lt (subst (λ (r : RowName). HasAdmitted (filed.each k d lt) (entry.0, record { entry = entry.1.entry; by = r })) (sym (told_itself k d lt entry answer)) answer)
        go k d lt (by_stop left) = told_first k d lt entry.0 entry.1.entry entry.1.by left

    -- so the row that is told of filed it
    pub told_named : (entry : ℕ × Filed Entry) → Contains (numbered (length opening.list) filed.ran.added) entry
        → (k : ℕ) × (d : DeskView Entry Lines) × (lt : k < length before) × HasNamed (filed.each k d lt) (entry.0, told_by same after entry.0 entry.1)
    told_named entry has = go (told_of entry has)
      where
        go : {by : RowName} → IsToldOf filed entry.0 entry.1.entry by → (k : ℕ) × (d : DeskView Entry Lines) × (lt : k < length before) × HasNamed (filed.each k d lt) (entry.0, record { entry = entry.1.entry; by = by })
        go (accepted k d lt answer) = (k, d, lt, by_answer answer)
        go (in_doubt k d lt left first) = (k, d, lt, by_stop left)
