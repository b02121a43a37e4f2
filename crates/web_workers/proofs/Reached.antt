-- What asks leave as it was.
use Rattle.std.proofs.Common.{◌≡◌, List, [], ◌∷◌, Option, refl, sym, ◌∙◌, subst}
use Rattle.log_machine.specs.Scheme.{Semantics}
use Rattle.log_machine.specs.declared.reply.LogReply.{LogReply}
use Rattle.log_machine.specs.declared.reply.LogReply.TheVariants as reply
use Rattle.log_lock.specs.Passes.{Known}
use Rattle.log_desks.specs.Rows.{Replies}
use Rattle.log_machine.specs.declared.names.Filed.{Filed}
use Rattle.log_machine.specs.declared.names.RowName.{RowName}
use Rattle.web_session.specs.Asks.{IsAsked, Reaches, Steps}
use Rattle.web_session.specs.declared.status.Status.{Status}
use Rattle.web_workers.specs.Clerks.{Clerking, SubmitsOperation, clerk_faults}

pub record IsSameHandle {Entry : Type 0} (before after : Clerking Entry) : Type 0 where
  pub by : after.by ≡ before.by
  pub lock : after.handle.lock ≡ before.handle.lock
  pub share : after.handle.allowance ≡ before.handle.allowance
  pub opening : after.handle.opening ≡ before.handle.opening

-- a clerk by its parts
pub clerk_is : {Entry : Type 0} (clerk : Clerking Entry) (by : RowName) (handle : Known (Filed Entry)) → clerk.by ≡ by → handle ≡ clerk.handle → clerk ≡ record { by = by; handle = handle }
clerk_is clerk by handle named same = λ i. record { by = named i; handle = sym same i }

module _ {Entry Operation Response : Type 0} (semantics : Semantics Entry Operation Response) (own : Operation → Option Entry) (status : LogReply Response → Status) where
  opening_is : (by : RowName) (operation : Operation) (said : LogReply Response) (before after : Known (Filed Entry)) → Replies Unit semantics own by operation said before after → after.opening ≡ before.opening
  opening_is by operation (reply.Answered response front) before after (past, judged, size, on) = on.opening
  opening_is by operation (reply.DiskFault undecided) before after failed = failed.opening
  opening_is by operation reply.NoMemory before after starved = starved.opening

  same_steps : (operations : List Operation) (replies : List (LogReply Response)) (before after : Clerking Entry) → Steps (IsAsked (SubmitsOperation semantics own) clerk_faults status) before operations replies after → IsSameHandle before after
  same_steps [] [] before after same = subst (IsSameHandle before) (sym same) (record { by = refl; lock = refl; share = refl; opening = refl })
  same_steps [] (said ∷ replies) before after steps = absurd steps
  same_steps (operation ∷ operations) [] before after steps = absurd steps
  same_steps (operation ∷ operations) (said ∷ replies) before after (mid, asked, steps) =
      let submit = asked.step in
      let rest = same_steps operations replies mid after steps in
      record {
        by = rest.by ∙ submit.by;
        lock = rest.lock ∙ submit.lock;
        share = rest.share ∙ submit.share;
        opening = rest.opening ∙ opening_is before.by operation said before.handle mid.handle submit.replies;
      }

  pub same_pass : (before after : Clerking Entry) → Reaches (IsAsked (SubmitsOperation semantics own) clerk_faults status) before after → IsSameHandle before after
  same_pass before after reached = same_steps reached.operations reached.replies before after reached.steps
