-- The asks of a clerk who files all of them under one stamp.
use Rattle.std.proofs.Common.{◌≡◌, ℕ, List, Option, Some, Bool, ◌∙◌, subst}
use Rattle.std.specs.Prelude.{is_some}
use Rattle.log_machine.specs.Scheme.{Semantics}
use Rattle.log_machine.specs.declared.reply.LogReply.{LogReply}
use Rattle.log_machine.specs.declared.reply.LogReply.TheVariants as reply
use Rattle.log_machine.specs.declared.names.Filed.{Filed}
use Rattle.log_machine.specs.declared.names.RowName.{RowName}
use Rattle.log_desks.specs.Rows.{Replies}
use Rattle.log_lock.specs.Passes.{Known}
use Rattle.log_stamps.specs.OwnLaws.{own_added as stamped_own_added, adds_added as stamped_adds_added}
use Rattle.log_stamps.specs.Rows.{ask_under, semantics_under, own_under}
use Rattle.log_stamps.specs.Stamped.{stamped_semantics}
use Rattle.log_stamps.specs.declared.entry.StampedOperation.{StampedOperation}
use Rattle.log_stamps.specs.declared.entry.StampedEntry.{StampedEntry}
use Rattle.aid_stamps.specs.declared.stamp.Stamp.{Stamp}
use Rattle.web_session.specs.Asks.{Answers, IsAsked, Reaches, Scheme}
use Rattle.web_session.specs.Exchange.{ServesNear}
use Rattle.web_session.specs.declared.end.End.{End}
use Rattle.web_workers.specs.Clerks.{SubmitsOperation, AsksUnder, HandleAnswers, HandleReaches, StampedHandler, clerk_faults, clerking, stamped_faults}
use Rattle.web_workers.proofs.Forgetting.{reaches_forgets, serves_forgets}

module _ {Entry Operation Response : Type 0} (semantics : Semantics Entry Operation Response) (own : Operation → Option Entry) where
  -- the turn of an ask with a stamp is that of the ask, among asks that all have this stamp
  pub replies_under : (stamp : Stamp) (by : RowName) (operation : Operation) (said : LogReply Response) (before after : Known (Filed (StampedEntry Entry)))
      → Replies Unit (stamped_semantics semantics) (λ (a : StampedOperation Operation). own_under a.stamp own a.operation) by (ask_under stamp operation) said before after
      → Replies Unit (semantics_under stamp semantics) (own_under stamp own) by operation said before after
  replies_under stamp by operation (reply.Answered response front) before after (past, judged, size, on) = (
    past,
    judged,
    size,
    record { earlier = on.earlier; later = on.later; mine = on.mine; left = on.left; faults = on.faults; opening = on.opening },
  )
  replies_under stamp by operation (reply.DiskFault undecided) before after failed = record {
    earlier = failed.earlier;
    mine = failed.mine;
    left = failed.left;
    named = failed.named;
    faults = failed.faults;
    opening = failed.opening;
  }
  replies_under stamp by operation reply.NoMemory before after starved = starved

  asks_under : (stamp : Stamp) (before : StampedHandler Entry) (operation : Operation) (said : LogReply Response) (after : StampedHandler Entry) → before.stamp ≡ stamp → AsksUnder semantics own before operation said after
      → SubmitsOperation (semantics_under stamp semantics) (own_under stamp own) (clerking before) operation said (clerking after) × (after.stamp ≡ stamp)
  asks_under stamp before operation said after has one =
      (subst (λ s. SubmitsOperation (semantics_under s semantics) (own_under s own) (clerking before) operation said (clerking after)) has one.submit, one.stamp ∙ has)

  module _ (scheme : Scheme Operation (LogReply Response)) (stamp : Stamp) (before after : StampedHandler Entry) (has : before.stamp ≡ stamp) where
    -- what such a clerk's session leaves
    pub serves_under : (limit : ℕ) (bytes unread old new : List ℕ) (end : End) → ServesNear (Answers scheme (AsksUnder semantics own) stamped_faults) limit bytes unread before after old new end
        → ServesNear (HandleAnswers (semantics_under stamp semantics) (own_under stamp own) scheme) limit bytes unread (clerking before) (clerking after) old new end
    serves_under limit bytes unread old new end =
        serves_forgets clerking (λ c. c.stamp ≡ stamp) scheme (AsksUnder semantics own) (SubmitsOperation (semantics_under stamp semantics) (own_under stamp own)) clerk_faults (asks_under stamp) limit bytes unread before after old new end has

    -- its asks alone
    pub reaches_under : Reaches (IsAsked (AsksUnder semantics own) stamped_faults scheme.status) before after
        → HandleReaches (semantics_under stamp semantics) (own_under stamp own) scheme (clerking before) (clerking after)
    reaches_under = reaches_forgets clerking (λ c. c.stamp ≡ stamp) scheme (AsksUnder semantics own) (SubmitsOperation (semantics_under stamp semantics) (own_under stamp own)) clerk_faults (asks_under stamp) before after has

  -- what such an ask adds is its own entry
  pub own_added_under : ((past : List Entry) (operation : Operation) (entry : Entry) → semantics.added past operation ≡ Some entry → own operation ≡ Some entry)
      → (stamp : Stamp) (past : List (StampedEntry Entry)) (operation : Operation) (entry : StampedEntry Entry) → (semantics_under stamp semantics).added past operation ≡ Some entry → own_under stamp own operation ≡ Some entry
  own_added_under law stamp past operation entry = stamped_own_added semantics own law past (ask_under stamp operation) entry

  -- the verdict says that an entry is added exactly where one is
  pub adds_added_under : (adds : Response → Bool) → ((past : List Entry) (operation : Operation) → adds (semantics.answer past operation) ≡ is_some (semantics.added past operation))
      → (stamp : Stamp) (past : List (StampedEntry Entry)) (operation : Operation) → adds ((semantics_under stamp semantics).answer past operation) ≡ is_some ((semantics_under stamp semantics).added past operation)
  adds_added_under adds law stamp past operation = stamped_adds_added semantics adds law past (ask_under stamp operation)
