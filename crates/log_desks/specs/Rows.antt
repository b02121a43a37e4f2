-- What the turn of one row does to what its desk's pass knows.
use Rattle.std.specs.Prelude.{◌≡◌, ◌⊎◌, ℕ, ◌+◌, List, ◌++◌, length, Option, Some, Result, Ok, Contains}
use Rattle.log_machine.specs.Scheme.{Semantics}
use Rattle.log_machine.specs.declared.reply.LogReply.{LogReply}
use Rattle.log_machine.specs.declared.reply.LogReply.TheVariants as reply
use Rattle.log_machine.specs.Texts.{Texts, row_line, after_row}
use Rattle.log_lock.specs.Passes.{IsOlder, Known}
use Rattle.log_machine.specs.declared.names.RowName.{RowName}
use Rattle.log_machine.specs.declared.names.Filed.{Filed}
use Rattle.log_desks.specs.declared.stop.DeskStop.{DeskStop}
use Rattle.log_desks.specs.declared.stop.DeskStop.TheVariants as stop
use Rattle.log_machine.specs.Names.{filed_by, entries_of}
use Rattle.log_desks.specs.Answered.{admitted_row}

-- A row was answered on `past`: what it adds is the pass's own, and no other entry is.
pub record IsAnsweredOn {Entry Operation Response Error : Type 0} (semantics : Semantics Entry Operation Response) (by : RowName) (row : Result Operation Error) (past : List Entry) (before after : Known (Filed Entry)) : Type 0 where
  pub earlier : IsOlder (entries_of before.seen) past
  pub later : IsOlder (after_row semantics past row) (entries_of after.seen)
  pub mine : after.mine ≡ before.mine ++ admitted_row semantics by past row
  pub left : (entry : ℕ × Filed Entry) → Contains after.left entry → Contains before.left entry
  pub faults : after.faults ≡ before.faults
  pub opening : after.opening ≡ before.opening

-- The disk failed in the turn of a row. What is left undecided besides is the row's own entry, at the position that was named.
pub record IsFaulted {Entry Operation : Type 0} (own : Operation → Option Entry) (by : RowName) (operation : Operation) (undecided : Option ℕ) (before after : Known (Filed Entry)) : Type 0 where
  pub earlier : IsOlder (entries_of before.seen) (entries_of after.seen)
  pub mine : after.mine ≡ before.mine
  pub left : (entry : ℕ × Filed Entry) → Contains after.left entry → Contains before.left entry ⊎ ((undecided ≡ Some entry.0) × (filed_by (own operation) by ≡ Some entry.1))
  pub named : (position : ℕ) → undecided ≡ Some position → position ≡ length after.seen + 1
  pub faults : after.faults ≡ before.faults + 1
  pub opening : after.opening ≡ before.opening

-- There was no memory for the turn of a row.
pub record IsStarved {Entry : Type 0} (before after : Known (Filed Entry)) : Type 0 where
  pub earlier : IsOlder (entries_of before.seen) (entries_of after.seen)
  pub mine : after.mine ≡ before.mine
  pub left : (entry : ℕ × Filed Entry) → Contains after.left entry → Contains before.left entry
  pub faults : after.faults ≡ before.faults
  pub opening : after.opening ≡ before.opening

-- the turn of an ask, by its reply
abbrev pub Replies : {Entry Operation Response : Type 0} → (Error : Type 0) → Semantics Entry Operation Response → (Operation → Option Entry) → RowName → Operation → LogReply Response → Known (Filed Entry) → Known (Filed Entry) → Type 0
Replies {Entry} {Operation} {Response} Error semantics own by operation (reply.Answered response front) before after =
    (past : List Entry) × (response ≡ semantics.answer past operation) × (front ≡ length past) × IsAnsweredOn {Error = Error} semantics by (Ok operation) past before after
Replies Error semantics own by operation (reply.DiskFault undecided) before after = IsFaulted own by operation undecided before after
Replies Error semantics own by operation reply.NoMemory before after = IsStarved before after

-- a row was answered, and its line was appended to the text
abbrev pub IsWritten : {Entry Operation Response Error : Type 0} → Semantics Entry Operation Response → Texts Operation Response Error → RowName → List ℕ → Result Operation Error → List ℕ → List ℕ → Known (Filed Entry) → Known (Filed Entry) → Type 0
IsWritten {Entry} semantics texts by prefix row text text' before after =
    (past : List Entry) × (text' ≡ text ++ (prefix ++ row_line semantics texts past by.row row)) × IsAnsweredOn semantics by row past before after

-- a row at which its desk ended
abbrev pub StopsAt : {Entry Operation Error : Type 0} → (Operation → Option Entry) → RowName → DeskStop → Result Operation Error → Known (Filed Entry) → Known (Filed Entry) → Type 0
StopsAt {Entry} {Operation} own by (stop.DiskFault undecided) row before after = (operation : Operation) × (row ≡ Ok operation) × IsFaulted own by operation undecided before after
StopsAt own by stop.NoMemory row before after = IsStarved before after
