-- The row that filed what was added, by how many filings stood before it.
use Rattle.std.proofs.Common.{◌≡◌, ℕ, zero, suc, ◌+◌, ◌-◌, ◌<◌, List, [], ◌∷◌, ◌++◌, Option, Some, None, Result, Ok, Err, length, get_or, refl, sym, ap, ◌∙◌, subst, arith}
use Rattle.std.specs.Prelude.{⊤, Contains}
use Rattle.std.specs.List.{flat_map}
use Rattle.std.proofs.lemmas.List.Elements.{Contains-append_left, Contains-append_right}
use Rattle.std.proofs.lemmas.List.Sorted.{Contains-permutation, IsPermutation-sym}
use Rattle.log_desks.specs.Answered.{Answer, admitted_of, admitted_row, placed}
use Rattle.log_desks.specs.Desks.{DeskView, mine_in, settled_in}
use Rattle.log_machine.specs.Names.{no_row, rows_of}
use Rattle.log_machine.specs.Scheme.{Semantics}
use Rattle.log_machine.specs.Texts.{Texts, after_row}
use Rattle.log_machine.specs.Submits.{with_entry}
use Rattle.log_machine.specs.declared.names.Filed.{Filed}
use Rattle.log_machine.specs.declared.names.RowName.{RowName}
use Rattle.log_lock.specs.Passes.{numbered}
use Rattle.log_lock.specs.declared.turned.Snapshot.{Snapshot}
use Rattle.log_desk_runs.specs.RanDesksOn.{HasFiled}

-- what is numbered is one of the list, at its place
numbered_is : {E : Type 0} (n : ℕ) (added : List E) (entry : ℕ × E) → Contains (numbered n added) entry
    → (j : ℕ) × (j < length added) × (entry.0 ≡ n + (length added - 1 - j) + 1) × (entry.1 ≡ get_or added j entry.1)
numbered_is n [] entry (k, lt, is) = absurd (omega (arith, lt))
numbered_is {E} n (f ∷ added) entry (zero, lt, is) =
    let at : n + length added + 1 ≡ entry.0 = ap (λ (p : ℕ × E). p.0) is in
    (0, omega arith, omega (arith, at), sym (ap (λ (p : ℕ × E). p.1) is))
numbered_is n (f ∷ added) entry (suc k, lt, is) =
    let (j, less, at, one) = numbered_is n added entry (k, omega (arith, lt), is) in (suc j, omega (arith, less), omega (arith, less, at), one)

module _ {E : Type 0} where
  rows_at : (added : List (Filed E)) (j : ℕ) (f : Filed E) → j < length added → get_or (rows_of added) j no_row ≡ (get_or added j f).by
  rows_at [] j f lt = absurd (omega (arith, lt))
  rows_at (g ∷ added) zero f lt = refl
  rows_at (g ∷ added) (suc j) f lt = rows_at added j f (omega (arith, lt))

  -- the row that filed what was added to so many, behind this many
  abbrev pub row_behind : ℕ → List (Filed E) → ℕ → RowName
  row_behind n added place = get_or (rows_of added) (length added - 1 - (place - n)) no_row

  behind_is : (n : ℕ) (added : List (Filed E)) (entry : ℕ × Filed E) → Contains (numbered n added) entry → row_behind n added (entry.0 - 1) ≡ entry.1.by
  behind_is n added entry has =
      let (j, less, at, one) = numbered_is n added entry has in
      let place : length added - 1 - (entry.0 - 1 - n) ≡ j = omega (arith, less, at) in
      ap (λ (i : ℕ). get_or (rows_of added) i no_row) place ∙ (rows_at added j entry.1 less ∙ ap (λ (g : Filed E). g.by) (sym one))

-- what is in one of several lists is in all of them together
in_all : {X A : Type 0} (f : X → List A) (xs : List X) (k : ℕ) (x : X) (a : A) → k < length xs → Contains (f (get_or xs k x)) a → Contains (flat_map f xs) a
in_all f [] k x a lt has = absurd (omega (arith, lt))
in_all f (y ∷ xs) zero x a lt has = Contains-append_left (f y) (flat_map f xs) a has
in_all f (y ∷ xs) (suc k) x a lt has = Contains-append_right (f y) (flat_map f xs) a (in_all f xs k x a (omega (arith, lt)) has)

-- each row of a desk that adds an entry is the one that is named for the entry's place
abbrev pub AreNamed : {Entry Operation Response Error : Type 0} → Semantics Entry Operation Response → (ℕ → RowName) → ℕ → ℕ → List (Answer Entry Operation Error) → Type 0
AreNamed semantics by desk number [] = ⊤
AreNamed semantics by desk number (a ∷ answers) =
    (length a.past < length (after_row semantics a.past a.row) → by (length a.past) ≡ record { desk = desk; row = number }) × AreNamed semantics by desk (number + 1) answers

-- each of these entries is at a place for which its row is named
abbrev Names : {Entry : Type 0} → (ℕ → RowName) → List (ℕ × Filed Entry) → Type 0
Names {Entry} by entries = (entry : ℕ × Filed Entry) → Contains entries entry → by (entry.0 - 1) ≡ entry.1.by

module _ {Entry Operation Response Error : Type 0} (semantics : Semantics Entry Operation Response) (by : ℕ → RowName) (desk : ℕ) where
  row_named : (number : ℕ) (past : List Entry) (row : Result Operation Error) → Names by (admitted_row semantics (record { desk = desk; row = number }) past row)
      → length past < length (after_row semantics past row) → by (length past) ≡ record { desk = desk; row = number }
  row_named number past (Err error) each more = absurd (omega (arith, more))
  row_named number past (Ok operation) each more = go (semantics.added past operation) each more
    where
      own : RowName
      own = record { desk = desk; row = number }

      go : (o : Option Entry) → Names by (placed (length past + 1) o own) → length past < length (with_entry o past) → by (length past) ≡ own
      go None named grown = absurd (omega (arith, grown))
      go (Some f) named grown = ap by (let same : length past ≡ length past + 1 - 1 = omega arith in same) ∙ named (length past + 1, record { entry = f; by = own }) (0, omega arith, refl)

  all_named : (number : ℕ) (answers : List (Answer Entry Operation Error)) → Names by (admitted_of semantics desk number answers) → AreNamed semantics by desk number answers
  all_named number [] each = tt
  all_named number (a ∷ answers) each =
      let here = admitted_row semantics (record { desk = desk; row = number }) a.past a.row in
      let later = admitted_of semantics desk (number + 1) answers in (
        row_named number a.past a.row (λ entry has. each entry (Contains-append_left here later entry has)),
        all_named (number + 1) answers (λ entry has. each entry (Contains-append_right here later entry has)),
      )

module _ {Entry Operation Response Error Lines : Type 0} (semantics : Semantics Entry Operation Response) (own copied : Operation → Option Entry) (texts : Texts Operation Response Error) (untaken : Lines → List texts.Meaning)
    (opening closed : Snapshot (Filed Entry)) (before after : List (DeskView Entry Lines)) (filed : HasFiled semantics own copied texts untaken opening closed before after) where
  -- what a desk's rows added is among what joined the list
  in_added : (k : ℕ) (d : DeskView Entry Lines) (lt : k < length before) (entry : ℕ × Filed Entry) → Contains (filed.each k d lt).known.mine entry → Contains (numbered (length opening.list) filed.ran.added) entry
  in_added k d lt entry has =
      let mines = flat_map (λ (v : DeskView Entry Lines). mine_in v.handle) filed.desks in
      let settled = flat_map (λ (v : DeskView Entry Lines). settled_in v.handle) filed.desks in
      let its = filed.each k d lt in
      let here : Contains (mine_in (get_or filed.desks k d).handle) entry = subst (λ l. Contains l entry) (sym (ap mine_in its.has)) has in
      let all = in_all (λ (v : DeskView Entry Lines). mine_in v.handle) filed.desks k d entry (omega (arith, lt, filed.count)) here in
      Contains-permutation (mines ++ settled) (numbered (length opening.list) filed.ran.added) entry
      (IsPermutation-sym (numbered (length opening.list) filed.ran.added) (mines ++ settled) filed.ran.once) (Contains-append_left mines settled entry all)

  pub rows_named : (k : ℕ) (d : DeskView Entry Lines) (lt : k < length before) (number : ℕ) → (get_or before k d).number ≡ number
      → AreNamed semantics (row_behind (length opening.list) filed.ran.added) number 1 (filed.each k d lt).files.answers
  rows_named k d lt number is =
      let its = filed.each k d lt in
      let by = row_behind (length opening.list) filed.ran.added in
      subst (λ (n : ℕ). AreNamed semantics by n 1 its.files.answers) is
      (all_named semantics by (get_or before k d).number 1 its.files.answers (λ entry has.
      behind_is (length opening.list) filed.ran.added entry (in_added k d lt entry (subst (λ l. Contains l entry) (sym its.files.mine) has))))
