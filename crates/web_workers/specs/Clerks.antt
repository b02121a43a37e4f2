-- The clerk of one connection: each ask is a turn of the lock by one pass.
use Rattle.std.specs.Prelude.{◌≡◌, ◌+◌, ℕ, Option}
use Rattle.log_machine.specs.Scheme.{Semantics}
use Rattle.log_machine.specs.declared.reply.LogReply.{LogReply}
use Rattle.log_lock.specs.Passes.{Known}
use Rattle.log_lock.specs.Turning.{wants_in}
use Rattle.log_desks.specs.Rows.{Replies}
use Rattle.log_desks.specs.Shares.{wants_memory}
use Rattle.log_machine.specs.declared.names.Filed.{Filed}
use Rattle.log_machine.specs.declared.names.RowName.{RowName}
use Rattle.web_session.specs.Asks.{Scheme, Request, Answers, IsAsked, Reaches}
use Rattle.web_session.specs.Responses.{Answer}
use Rattle.aid_stamps.specs.declared.stamp.Stamp.{Stamp}
use Rattle.log_stamps.specs.declared.entry.StampedEntry.{StampedEntry}
use Rattle.log_stamps.specs.Rows.{semantics_under, own_under}

-- the name under which entries are filed, and what the pass knows
pub record Clerking (Entry : Type 0) : Type 0 where
  pub by : RowName
  pub handle : Known (Filed Entry)

-- one ask: what its turn does to what the pass knows
pub record SubmitsOperation {Entry Operation Response : Type 0} (semantics : Semantics Entry Operation Response) (own : Operation → Option Entry) (before : Clerking Entry) (operation : Operation) (reply : LogReply Response) (after : Clerking Entry) : Type 0 where
  pub by : after.by ≡ before.by
  pub replies : Replies Unit semantics own before.by operation reply before.handle after.handle
  pub lock : after.handle.lock ≡ before.handle.lock
  pub share : after.handle.allowance ≡ before.handle.allowance
  pub wants : after.handle.wants ≡ before.handle.wants + wants_in (wants_memory reply)
  pub turns : after.handle.turns ≡ before.handle.turns + 1

-- the pass's own count of replies that told of a fault
abbrev pub clerk_faults : {Entry : Type 0} → Clerking Entry → ℕ
clerk_faults clerk = clerk.handle.faults

-- a request, its answer, and the clerk before and after
abbrev pub HandleAnswers : {Entry Operation Response : Type 0} → Semantics Entry Operation Response → (Operation → Option Entry) → Scheme Operation (LogReply Response) → Clerking Entry → Request → Answer → Clerking Entry → Type 0
HandleAnswers semantics own scheme = Answers scheme (SubmitsOperation semantics own) clerk_faults

-- the clerk came from one to the other by asks alone
abbrev pub HandleReaches : {Entry Operation Response : Type 0} → Semantics Entry Operation Response → (Operation → Option Entry) → Scheme Operation (LogReply Response) → Clerking Entry → Clerking Entry → Type 0
HandleReaches semantics own scheme = Reaches (IsAsked (SubmitsOperation semantics own) clerk_faults scheme.status)

-- a clerk who files all asks under one stamp
pub record StampedHandler (Entry : Type 0) : Type 0 where
  pub by : RowName
  pub handle : Known (Filed (StampedEntry Entry))
  pub stamp : Stamp

-- the same clerk without the stamp
abbrev pub clerking : {Entry : Type 0} → StampedHandler Entry → Clerking (StampedEntry Entry)
clerking clerk = record { by = clerk.by; handle = clerk.handle }

-- one ask: its turn is of asks under the clerk's stamp, and the clerk keeps the stamp
pub record AsksUnder {Entry Operation Response : Type 0} (semantics : Semantics Entry Operation Response) (own : Operation → Option Entry) (before : StampedHandler Entry) (operation : Operation) (reply : LogReply Response) (after : StampedHandler Entry) : Type 0 where
  pub submit : SubmitsOperation (semantics_under before.stamp semantics) (own_under before.stamp own) (clerking before) operation reply (clerking after)
  pub stamp : after.stamp ≡ before.stamp

-- the pass's own count of replies that told of a fault
abbrev pub stamped_faults : {Entry : Type 0} → StampedHandler Entry → ℕ
stamped_faults clerk = clerk_faults (clerking clerk)
