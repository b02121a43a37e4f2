-- What the rows of a desk were answered. A list is read newest first, answers oldest first.
use Rattle.std.specs.Prelude.{◌≡◌, ℕ, ◌+◌, List, [], ◌∷◌, ◌++◌, length, map, Option, Some, None, Result, Ok, Err, Contains}
use Rattle.log_machine.specs.Scheme.{Semantics}
use Rattle.log_machine.specs.Texts.{Texts, row_line, after_row}
use Rattle.log_lock.specs.Passes.{IsOlder, Known}
use Rattle.log_machine.specs.declared.names.RowName.{RowName}
use Rattle.log_machine.specs.declared.names.Filed.{Filed}
use Rattle.log_desks.specs.declared.stop.DeskStop.TheVariants.{DiskFault, NoMemory}
use Rattle.log_desks.specs.declared.stop.DeskEnd.{DeskEnd}
use Rattle.log_desks.specs.declared.stop.DeskEnd.TheVariants.{Open, Done, Stopped}
use Rattle.log_machine.specs.Names.{filed_by, entries_of}

-- a row, and the list that it was answered on
pub record Answer (Entry Operation Error : Type 0) : Type 0 where
  pub past : List Entry
  pub row : Result Operation Error

-- The list of each answer goes on from the list after the answer before it, and `now` from the list after the last one.
abbrev pub Follows : {Entry Operation Response Error : Type 0} → Semantics Entry Operation Response → List Entry → List (Answer Entry Operation Error) → List Entry → Type 0
Follows semantics before [] now = IsOlder before now
Follows semantics before (answer ∷ answers) now = IsOlder before answer.past × Follows semantics (after_row semantics answer.past answer.row) answers now

-- a line for each answer, behind the desk's prefix
abbrev pub answer_lines : {Entry Operation Response Error : Type 0} → Semantics Entry Operation Response → Texts Operation Response Error → List ℕ → ℕ → List (Answer Entry Operation Error) → List ℕ
answer_lines semantics texts prefix number [] = []
answer_lines semantics texts prefix number (answer ∷ answers) = (prefix ++ row_line semantics texts answer.past number answer.row) ++ answer_lines semantics texts prefix (number + 1) answers

-- an entry, where there is one, at this position, with the row that filed it
abbrev pub placed : {E : Type 0} → ℕ → Option E → RowName → List (ℕ × Filed E)
placed position None by = []
placed position (Some e) by = (position, record { entry = e; by = by }) ∷ []

-- what a row adds to the list that it is answered on, past that list
abbrev pub admitted_row : {Entry Operation Response Error : Type 0} → Semantics Entry Operation Response → RowName → List Entry → Result Operation Error → List (ℕ × Filed Entry)
admitted_row semantics by past (Ok operation) = placed (length past + 1) (semantics.added past operation) by
admitted_row semantics by past (Err error) = []

-- what the answers of a desk added, each with its position and its row
abbrev pub admitted_of : {Entry Operation Response Error : Type 0} → Semantics Entry Operation Response → ℕ → ℕ → List (Answer Entry Operation Error) → List (ℕ × Filed Entry)
admitted_of semantics desk number [] = []
admitted_of semantics desk number (answer ∷ answers) = admitted_row semantics (record { desk = desk; row = number }) answer.past answer.row ++ admitted_of semantics desk (number + 1) answers

-- no entry was left undecided, and no fault was told
abbrev pub IsClean : {E : Type 0} → Known E → Type 0
IsClean {E} known = ((entry : ℕ × E) → Contains known.left entry → ⊥) × (known.faults ≡ 0)

-- A row at which the disk failed: what it names is the place past the list that was seen then, and what its pass left
-- undecided is the row's own entry, at that place.
pub record IsAtFault {Entry Operation Error : Type 0} (own : Operation → Option Entry) (by : RowName) (undecided : Option ℕ) (taken : List (Result Operation Error)) (known : Known (Filed Entry)) : Type 0 where
  pub operation : Operation
  pub row : taken ≡ Ok operation ∷ []
  pub faults : known.faults ≡ 1
  pub named : (position : ℕ) → undecided ≡ Some position → position ≡ length known.seen + 1
  pub left : (entry : ℕ × Filed Entry) → Contains known.left entry → (undecided ≡ Some entry.0) × (filed_by (own operation) by ≡ Some entry.1)

-- how a desk's rows ended: the row that was taken last and has no line, if there is one, and what the rows say that weren't taken
abbrev pub Ends : {Entry Operation Error Meaning : Type 0} → (Operation → Option Entry) → RowName → DeskEnd → List (Result Operation Error) → List Meaning → Known (Filed Entry) → Type 0
Ends own by Open taken rest known = (taken ≡ []) × IsClean known
Ends own by Done taken rest known = (taken ≡ []) × (rest ≡ []) × IsClean known
Ends own by (Stopped (DiskFault undecided)) taken rest known = IsAtFault own by undecided taken known
Ends own by (Stopped NoMemory) taken rest known = IsClean known

-- what is kept of the entry of a row, where the row was taken and has no line
abbrev pub kept_row : {Entry Operation Error : Type 0} → (Operation → Option Entry) → Result Operation Error → Option Entry
kept_row copied (Ok operation) = copied operation
kept_row copied (Err error) = None

abbrev pub kept_of : {Entry Operation Error : Type 0} → (Operation → Option Entry) → List (Result Operation Error) → Option Entry
kept_of copied [] = None
kept_of copied (row ∷ rows) = kept_row copied row

-- What a desk filed of its rows: each was answered on a list that goes on from the list that the desk had seen, has that
-- answer's line, and what it adds is among the desk's own. Of the row at which it ended what it files is kept.
pub record Files {Entry Operation Response Error : Type 0} (semantics : Semantics Entry Operation Response) (own copied : Operation → Option Entry) (texts : Texts Operation Response Error) (desk : ℕ) (prefix : List ℕ) (total : List texts.Meaning) (written : List ℕ) (count : ℕ) (ended : DeskEnd) (last : Option Entry) (known : Known (Filed Entry)) : Type 0 where
  pub answers : List (Answer Entry Operation Error)
  pub taken : List (Result Operation Error)
  pub rest : List texts.Meaning
  pub split : total ≡ map texts.said (map (λ (a : Answer Entry Operation Error). a.row) answers ++ taken) ++ rest
  pub counted : count ≡ length answers
  pub text : written ≡ answer_lines semantics texts prefix 1 answers
  pub follows : Follows semantics (entries_of known.opening.list) answers (entries_of known.seen)
  pub mine : known.mine ≡ admitted_of semantics desk 1 answers
  pub ends : Ends own (record { desk = desk; row = count + 1 }) ended taken rest known
  pub kept : last ≡ kept_of copied taken
