-- Whatever the command, no entry that stood is lost at any moment of a run.
use Rattle.std.proofs.Common.{◌≡◌, ℕ, List, [], ◌∷◌, ◌++◌, Option, Some, None, Result, Ok, Err, refl, sym, ap, subst, ◌∙◌, append_assoc}
use Rattle.io_traits.specs.DiskState.{EachMoment}
use Rattle.io_traits.specs.declared.disk.Disk.{Ghosts}
use Rattle.io_traits.proofs.Moments.{weaken}
use Rattle.log_machine.specs.Recovers.{Recovers}
use Rattle.log_machine.specs.Scheme.{Semantics, Scheme}
use Rattle.log_machine.specs.Texts.{Texts, after_row, after_rows}
use Rattle.log_machine.specs.Submits.{with_entry}
use Rattle.log_runs.specs.Lists.{MayRecoverList}
use Rattle.log_runs.specs.declared.list.ListCommand.{ListCommand}
use Rattle.log_runs.specs.declared.list.ListCommand.TheVariants.{Found, File}
use Rattle.log_session.specs.Edges.{Input}

module _ {Entry Operation Response Error : Type 0} (scheme : Scheme Entry) (semantics : Semantics Entry Operation Response) (texts : Texts Operation Response Error) (rows_of : List ℕ → List texts.Meaning) where
  -- the one list is the other's older part
  abbrev IsOlder : List Entry → List Entry → Type 0
  IsOlder older newer = (added : List Entry) × (newer ≡ added ++ older)

  joined : (o : Option Entry) (past : List Entry) → IsOlder past (with_entry o past)
  joined None past = ([], refl)
  joined (Some e) past = (e ∷ [], refl)

  row_adds : (past : List Entry) (row : Result Operation Error) → IsOlder past (after_row semantics past row)
  row_adds past (Ok operation) = joined (semantics.added past operation) past
  row_adds past (Err error) = ([], refl)

  rows_add : (past : List Entry) (rows : List (Result Operation Error)) → IsOlder past (after_rows semantics past rows)
  rows_add past [] = ([], refl)
  rows_add past (row ∷ rows) =
      let (first, is) = row_adds past row in
      let (more, are) = rows_add (after_row semantics past row) rows in
      (more ++ first, are ∙ (ap (λ (l : List Entry). more ++ l) is ∙ sym (append_assoc more first past)))

  -- what is recovered has the list before it
  abbrev Has : List Entry → List ℕ → Type 0
  Has past file = (added : List Entry) × Recovers scheme file (added ++ past)

  has : (past now : List Entry) (file : List ℕ) → IsOlder past now → Recovers scheme file now → Has past file
  has past now file (added, is) r = (added, subst (λ (l : List Entry). Recovers scheme file l) is r)

  keeps_file : (command : Option ListCommand) (input : Input) (past : List Entry) (file : List ℕ) → MayRecoverList scheme semantics texts rows_of command input past file → Has past file
  keeps_file None input past file r = ([], r)
  keeps_file (Some Found) input past file r = ([], r)
  keeps_file (Some File) input past file (left, is, taken) = let (rows, rest, said, r) = taken in has past (after_rows semantics past rows) file (rows_add past rows) r

  -- at each moment of a run
  pub keeps : {D : Type 0} (disk : Ghosts D) (command : Option ListCommand) (input : Input) (past : List Entry) (old new : D)
      → EachMoment (disk.tells old) (disk.tells new) (MayRecoverList scheme semantics texts rows_of command input past) → EachMoment (disk.tells old) (disk.tells new) (Has past)
  keeps disk command input past old new moments =
      weaken (disk.tells old) (disk.tells new) (MayRecoverList scheme semantics texts rows_of command input past) (Has past) (λ file may. keeps_file command input past file may) moments
