-- What a turn of a kept list makes of an ask.
use Rattle.std.specs.Prelude.{◌≡◌, ◌⊎◌, ◌+◌, ◌<◌, ◌^◌, ℕ, Bool, true, false, List, ◌∷◌, length, Option, Some, None, IsSome}
use Rattle.log_machine.specs.Scheme.{Scheme, Semantics}
use Rattle.log_machine.specs.Recovers.{Recovers}
use Rattle.log_machine.specs.declared.reply.LogReply.{LogReply}
use Rattle.log_machine.specs.declared.reply.LogReply.TheVariants.{Answered, DiskFault, NoMemory}

-- the list with an entry more, where there is one: an undecided one once it is settled
abbrev pub with_entry : {Entry : Type 0} → Option Entry → List Entry → List Entry
with_entry None history = history
with_entry (Some entry) history = entry ∷ history

-- the list after an ask
abbrev pub after_ask : {Entry Operation Response : Type 0} → Semantics Entry Operation Response → List Entry → Operation → List Entry
after_ask semantics past operation = with_entry (semantics.added past operation) past

-- the ask was judged, and the entry that it adds stands, at the place after those before it
pub record IsAnswered {Entry Operation Response : Type 0} (semantics : Semantics Entry Operation Response) (past : List Entry) (operation : Operation) (response : Response) (front : ℕ) (history : List Entry) (pending : Option Entry) : Type 0 where
  pub answer : response ≡ semantics.answer past operation
  pub seen : front ≡ length past
  pub few : front + 1 < 2 ^ 32
  pub list : history ≡ after_ask semantics past operation
  pub decided : pending ≡ None

-- the entry that the ask adds isn't kept, for good
pub record IsNotKept {Entry Operation Response : Type 0} (semantics : Semantics Entry Operation Response) (past : List Entry) (operation : Operation) (history : List Entry) (pending : Option Entry) : Type 0 where
  pub adds : IsSome (semantics.added past operation)
  pub list : history ≡ past
  pub decided : pending ≡ None

-- the entry that the ask adds is undecided; it is named by the place after those before it
pub record IsLeftUndecided {Entry Operation Response : Type 0} (semantics : Semantics Entry Operation Response) (past : List Entry) (operation : Operation) (position : ℕ) (history : List Entry) (pending : Option Entry) : Type 0 where
  pub adds : IsSome (semantics.added past operation)
  pub list : history ≡ past
  pub undecided : pending ≡ semantics.added past operation
  pub next : position ≡ length past + 1

-- the entry that was undecided still is, and the ask wasn't judged
pub record IsUnsettled {Entry : Type 0} (old : List Entry) (was : Option Entry) (position : ℕ) (history : List Entry) (pending : Option Entry) : Type 0 where
  pub some : IsSome was
  pub list : history ≡ old
  pub undecided : pending ≡ was
  pub next : position ≡ length old + 1

-- nothing changes
pub record IsUnchanged {Entry : Type 0} (old : List Entry) (was : Option Entry) (history : List Entry) (pending : Option Entry) : Type 0 where
  pub list : history ≡ old
  pub undecided : pending ≡ was

-- An entry that is to be admitted is kept, and then the verdict that adds it is given; or it isn't kept, for good; or it
-- is left undecided.
abbrev pub IsKeptOr : {Entry Response : Type 0} → Entry → Response → ℕ → List Entry → LogReply Response → List Entry → Option Entry → Type 0
IsKeptOr entry response front past (Answered told seen) history pending = (told ≡ response) × (seen ≡ front) × (history ≡ entry ∷ past) × (pending ≡ None)
IsKeptOr entry response front past (DiskFault None) history pending = (history ≡ past) × (pending ≡ None)
IsKeptOr entry response front past (DiskFault (Some position)) history pending = (history ≡ past) × (pending ≡ Some entry) × (position ≡ front + 1)
IsKeptOr entry response front past NoMemory history pending = ⊥

-- One ask where nothing is undecided: the list before, the ask, the reply, and the list and the undecided entry after.
abbrev pub Answers : {Entry Operation Response : Type 0} → Semantics Entry Operation Response → List Entry → Operation → LogReply Response → List Entry → Option Entry → Type 0
Answers semantics past operation (Answered response front) history pending = IsAnswered semantics past operation response front history pending
Answers semantics past operation (DiskFault None) history pending = IsNotKept semantics past operation history pending
Answers semantics past operation (DiskFault (Some position)) history pending = IsLeftUndecided semantics past operation position history pending
Answers semantics past operation NoMemory history pending = ⊥

-- One turn: the list and the undecided entry before, the ask, the reply, and the same two after. What was undecided is
-- settled first, and the ask is judged on the list with it.
abbrev pub Submits : {Entry Operation Response : Type 0} → Semantics Entry Operation Response → List Entry → Option Entry → Operation → LogReply Response → List Entry → Option Entry → Type 0
Submits semantics old was operation (DiskFault (Some position)) history pending = IsUnsettled old was position history pending
    ⊎ IsLeftUndecided semantics (with_entry was old) operation position history pending
Submits semantics old was operation NoMemory history pending = IsUnchanged old was history pending
Submits semantics old was operation reply history pending = Answers semantics (with_entry was old) operation reply history pending

-- the reply says that the disk failed
abbrev pub is_fault : {Response : Type 0} → LogReply Response → Bool
is_fault (Answered response front) = false
is_fault (DiskFault undecided) = true
is_fault NoMemory = false

-- A file at a moment of a turn recovers the list before, or that with the undecided entry, or that with what the ask
-- adds too.
abbrev pub MayRecover : {Entry Operation Response : Type 0} → Scheme Entry → Semantics Entry Operation Response → List Entry → Option Entry → Operation → List ℕ → Type 0
MayRecover scheme semantics old was operation file = Recovers scheme file old
    ⊎ (Recovers scheme file (with_entry was old) ⊎ Recovers scheme file (after_ask semantics (with_entry was old) operation))

-- A file at a moment of a turn recovers the list before, or that with the undecided entry, or what the turn leaves, with the entry that is
-- undecided then.
abbrev pub RecoversOnWay : {Entry : Type 0} → Scheme Entry → List Entry → Option Entry → List Entry → Option Entry → List ℕ → Type 0
RecoversOnWay scheme old was new left file = Recovers scheme file old ⊎ (Recovers scheme file (with_entry was old) ⊎ Recovers scheme file (with_entry left new))
