-- What the rows of a session do to the disk, one after the other.
use Rattle.std.specs.Prelude.{◌≡◌, ◌+◌, ◌≤◌, ℕ, List, [], ◌∷◌, ◌++◌, length, map, take, Option, Some, None, IsSome, IsTrue, Result}
use Rattle.io_traits.specs.DiskState.{EachImage, EachMoment, IsHonest, IsQuiet}
use Rattle.io_traits.specs.declared.disk.Disk.{Ghosts}
use Rattle.log_machine.specs.Scheme.{Scheme, Semantics}
use Rattle.log_journal.specs.Stands.{WithGateOpen}
use Rattle.log_machine.specs.Recovers.{Recovers, RecoversEither, payloads_of}
use Rattle.log_session.specs.Edges.{Input}
use Rattle.log_machine.specs.Texts.{Texts, after_row, after_rows}

-- One row was answered: at each moment of its turn each image recovers the list before it or the list after it, and at
-- the end each image recovers the list after it.
pub record IsLink {D Entry Operation Response Error : Type 0} (disk : Ghosts D) (scheme : Scheme Entry) (semantics : Semantics Entry Operation Response) (row : Result Operation Error) (past : List Entry) (old new : D) : Type 0 where
  pub honest : (disk.tells new).honest ≡ (disk.tells old).honest
  pub moments : IsHonest (disk.tells old) → EachMoment (disk.tells old) (disk.tells new) (RecoversEither scheme past (after_row semantics past row))
  pub images : IsHonest (disk.tells old) → EachImage (disk.tells new) (λ file. Recovers scheme file (after_row semantics past row))

-- these rows were answered one after the other: a chain of links from one state of the disk to another
pub data Runs {D Entry Operation Response Error : Type 0} (disk : Ghosts D) (scheme : Scheme Entry) (semantics : Semantics Entry Operation Response) : List (Result Operation Error) → List Entry → D → D → Type 0 where
  begun : (past : List Entry) (at : D) → Runs disk scheme semantics [] past at at
  answered : (row : Result Operation Error) (rows : List (Result Operation Error)) (past : List Entry) (old mid new : D)
      → IsLink disk scheme semantics row past old mid → Runs disk scheme semantics rows (after_row semantics past row) mid new
      → Runs disk scheme semantics (row ∷ rows) past old new

-- The disk failed in the turn of a row that adds an entry. The entry isn't kept, for good; or it is undecided, named by the
-- position at which it would stand: then each image stands for the list with it, once its gate byte is set to 1.
pub record IsFaulted {D Entry Operation Response Error : Type 0} (disk : Ghosts D) (scheme : Scheme Entry) (semantics : Semantics Entry Operation Response) (undecided : Option ℕ) (row : Result Operation Error) (past : List Entry) (old new : D) : Type 0 where
  pub entry : Entry
  pub adds : after_row semantics past row ≡ entry ∷ past
  pub honest : (disk.tells new).honest ≡ (disk.tells old).honest
  pub named : (position : ℕ) → undecided ≡ Some position → position ≡ length past + 1
  pub moments : IsHonest (disk.tells old) → EachMoment (disk.tells old) (disk.tells new) (RecoversEither scheme past (entry ∷ past))
  pub decided : IsHonest (disk.tells old) → undecided ≡ None → EachImage (disk.tells new) (λ file. Recovers scheme file past)
  pub gate_open : IsHonest (disk.tells old) → IsSome undecided
      → EachImage (disk.tells new) (WithGateOpen scheme.header (payloads_of scheme.spelling past) (scheme.spelling entry))

-- The journal was opened: the list is what the disk reads as. Nothing else may be left by a crash then, also where a
-- crash before the session could have left other images.
pub record IsOpened {D Entry : Type 0} (disk : Ghosts D) (scheme : Scheme Entry) (past : List Entry) (old new : D) : Type 0 where
  pub honest : (disk.tells new).honest ≡ (disk.tells old).honest
  pub legal : scheme.IsLegal past
  pub recovers : IsHonest (disk.tells old) → Recovers scheme (disk.tells old).reads past
  pub quiet : IsHonest (disk.tells old) → IsQuiet (disk.tells new)
  -- this lies in the run, after its beginning
  pub later : IsHonest (disk.tells old) → (disk.tells old).moment ≤ (disk.tells new).moment
  pub images : IsHonest (disk.tells old) → EachImage (disk.tells new) (λ file. Recovers scheme file past)
  -- where each image recovered the list already, as on a quiet disk, each one at each moment does
  pub moments : IsHonest (disk.tells old) → EachImage (disk.tells old) (λ file. Recovers scheme file past)
      → EachMoment (disk.tells old) (disk.tells new) (λ file. Recovers scheme file past)

-- the file recovers the list before these rows, with what some of them in front add
abbrev pub RecoversFront : {Entry Operation Response Error : Type 0} → Scheme Entry → Semantics Entry Operation Response → List Entry → List (Result Operation Error) → List ℕ → Type 0
RecoversFront scheme semantics past rows file = (k : ℕ) × Recovers scheme file (after_rows semantics past (take k rows))

-- the file recovers the list before these rows, of which what they say is given, with what some of them in front add
abbrev pub RecoversTaken : {Entry Operation Response Error : Type 0} → Scheme Entry → Semantics Entry Operation Response → (texts : Texts Operation Response Error) → List Entry → List texts.Meaning → List ℕ → Type 0
RecoversTaken {Operation} {Error} scheme semantics texts past said file = (rows : List (Result Operation Error)) × (rest : List texts.Meaning)
    × (said ≡ map texts.said rows ++ rest) × Recovers scheme file (after_rows semantics past rows)

-- the same of the rows of an input: those of its text, where the source is honest, and of any where it isn't
abbrev pub RecoversOf : {Entry Operation Response Error : Type 0} → Scheme Entry → Semantics Entry Operation Response → (texts : Texts Operation Response Error) → (List ℕ → List texts.Meaning) → Input → List Entry → List ℕ → Type 0
RecoversOf scheme semantics texts rows_of input past file = (left : List texts.Meaning) × (IsTrue input.honest → left ≡ rows_of input.before) × RecoversTaken scheme semantics texts past left file
