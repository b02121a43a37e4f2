-- A clerk whose answers are those of another clerk, once part of what it has is forgotten, and while that part keeps a law.
use Rattle.std.proofs.Common.{ℕ, List, [], ◌∷◌, Option, Some, None, Result, Ok, Err, sym, ap, subst}
use Rattle.web_session.specs.Asks.{Answers, AnswersOperation, AnswersCall, IsAsked, Reaches, Request, Scheme, Steps}
use Rattle.web_session.specs.Exchange.{IsExchange, IsFront, Run, ServesNear, Stops, asked, refused, unasked}
use Rattle.web_session.specs.Responses.{Answer}
use Rattle.web_session.specs.declared.call.ApiCall.{ApiCall}
use Rattle.web_session.specs.declared.end.End.{End}
use Rattle.web_session.specs.declared.end.End.TheVariants.{Closed, Cut, Rejected, Limit, ConnectionFault, NoMemory}
use Rattle.web_session.specs.declared.status.Status.{Status}

-- ---- sessions, by any answers
module _ {C C' : Type 0} (forget : C → C') (Keeps : C → Type 0) (answers : C → Request → Answer → C → Type 0) (answers' : C' → Request → Answer → C' → Type 0)
    (implies : (before : C) (request : Request) (answer : Answer) (after : C) → Keeps before → answers before request answer after → answers' (forget before) request answer (forget after) × Keeps after) where
  run_forgets : (before : C) (requests : List Request) (replies : List Answer) (after : C) → Keeps before → Run answers before requests replies after
      → Run answers' (forget before) requests replies (forget after) × Keeps after
  run_forgets before [] [] after keeps same = (ap forget same, subst Keeps (sym same) keeps)
  run_forgets before [] (reply ∷ replies) after keeps run = absurd run
  run_forgets before (request ∷ requests) [] after keeps run = absurd run
  run_forgets before (request ∷ requests) (reply ∷ replies) after keeps (mid, one, rest) =
      let first = implies before request reply mid keeps one in
      let others = run_forgets mid requests replies after first.1 rest in
      ((forget mid, first.0, others.0), others.1)

  stops_forgets : (bytes : List ℕ) (before after : C) (out : List ℕ) (n : ℕ) → Keeps before → Stops answers bytes before after out n → Stops answers' bytes (forget before) (forget after) out n
  stops_forgets bytes before after out _ keeps (unasked n same none) = unasked n (ap forget same) none
  stops_forgets bytes before after out _ keeps (asked n s reply tells one front) = asked n s reply tells (implies before s.request reply after keeps one).0 front
  stops_forgets bytes before after out _ keeps (refused n status tells same front) = refused n status tells (ap forget same) front

  module _ (limit : ℕ) (bytes : List ℕ) (before after : C) (old new : List ℕ) (keeps : Keeps before) where
    abbrev exchange_forgets : (way : End) → IsExchange answers limit bytes before after old new way → IsExchange answers' limit bytes (forget before) (forget after) old new way
    exchange_forgets way x = record {
      requests = x.requests;
      ending = x.ending;
      brings = x.brings;
      replies = x.replies;
      run = (run_forgets before x.requests x.replies after keeps x.run).0;
      text = x.text;
      way_is = x.way_is;
    }

    abbrev front_forgets : IsFront answers limit bytes before after old new → IsFront answers' limit bytes (forget before) (forget after) old new
    front_forgets f =
        let ran = run_forgets before f.done f.replies f.mid keeps f.run in
        record {
          done = f.done;
          left = f.left;
          rest = f.rest;
          begins = f.begins;
          replies = f.replies;
          mid = forget f.mid;
          run = ran.0;
          out = f.out;
          stops = stops_forgets f.rest f.mid after f.out f.left ran.1 f.stops;
          text = f.text;
        }

    pub near_forgets : (unread : List ℕ) (end : End) → ServesNear answers limit bytes unread before after old new end → ServesNear answers' limit bytes unread (forget before) (forget after) old new end
    near_forgets unread ConnectionFault (s, near) = (front_forgets s, near)
    near_forgets unread NoMemory (s, near) = (front_forgets s, near)
    near_forgets unread Closed (s, near) = (exchange_forgets Closed s, near)
    near_forgets unread Cut (s, near) = (exchange_forgets Cut s, near)
    near_forgets unread Rejected (s, near) = (exchange_forgets Rejected s, near)
    near_forgets unread Limit (s, near) = (exchange_forgets Limit s, near)

-- ---- asks
module _ {C C' Operation Reply : Type 0} (forget : C → C') (Keeps : C → Type 0) (scheme : Scheme Operation Reply) (takes : C → Operation → Reply → C → Type 0) (takes' : C' → Operation → Reply → C' → Type 0) (faults : C' → ℕ)
    (implies : (before : C) (operation : Operation) (reply : Reply) (after : C) → Keeps before → takes before operation reply after → takes' (forget before) operation reply (forget after) × Keeps after) where
  abbrev counts : C → ℕ
  counts c = faults (forget c)

  asked_forgets : (before : C) (operation : Operation) (reply : Reply) (after : C) → Keeps before → IsAsked takes counts scheme.status before operation reply after
      → IsAsked takes' faults scheme.status (forget before) operation reply (forget after) × Keeps after
  asked_forgets before operation reply after keeps one =
      let step = implies before operation reply after keeps one.step in
      (record { step = step.0; later = one.later; cause = one.cause }, step.1)

  ask_forgets : (before : C) (o : Option Operation) (answer : Answer) (after : C) → Keeps before → AnswersOperation scheme takes counts before o answer after
      → AnswersOperation scheme takes' faults (forget before) o answer (forget after) × Keeps after
  ask_forgets before None answer after keeps (is, same) = ((is, ap forget same), subst Keeps (sym same) keeps)
  ask_forgets before (Some operation) answer after keeps (reply, one, is) = let step = asked_forgets before operation reply after keeps one in ((reply, step.0, is), step.1)

  call_forgets : (before : C) (call : Result ApiCall Status) (body : List ℕ) (answer : Answer) (after : C) → Keeps before → AnswersCall scheme takes counts before call body answer after
      → AnswersCall scheme takes' faults (forget before) call body answer (forget after) × Keeps after
  call_forgets before (Err status) body answer after keeps (is, same) = ((is, ap forget same), subst Keeps (sym same) keeps)
  call_forgets before (Ok call) body answer after keeps one = ask_forgets before (scheme.ask_of call body) answer after keeps one

  -- a session of the clerk is one of the other clerk
  pub serves_forgets : (limit : ℕ) (bytes unread : List ℕ) (before after : C) (old new : List ℕ) (end : End) → Keeps before → ServesNear (Answers scheme takes counts) limit bytes unread before after old new end
      → ServesNear (Answers scheme takes' faults) limit bytes unread (forget before) (forget after) old new end
  serves_forgets limit bytes unread before after old new end keeps =
      near_forgets forget Keeps (Answers scheme takes counts) (Answers scheme takes' faults) (λ before request answer after. call_forgets before request.head.call request.body answer after) limit bytes before after old new keeps unread end

  steps_forget : (before : C) (operations : List Operation) (replies : List Reply) (after : C) → Keeps before → Steps (IsAsked takes counts scheme.status) before operations replies after
      → Steps (IsAsked takes' faults scheme.status) (forget before) operations replies (forget after)
  steps_forget before [] [] after keeps same = ap forget same
  steps_forget before [] (reply ∷ replies) after keeps steps = absurd steps
  steps_forget before (operation ∷ operations) [] after keeps steps = absurd steps
  steps_forget before (operation ∷ operations) (reply ∷ replies) after keeps (mid, one, rest) =
      let first = asked_forgets before operation reply mid keeps one in
      (forget mid, first.0, steps_forget mid operations replies after first.1 rest)

  pub reaches_forgets : (before after : C) → Keeps before → Reaches (IsAsked takes counts scheme.status) before after → Reaches (IsAsked takes' faults scheme.status) (forget before) (forget after)
  reaches_forgets before after keeps r = record { operations = r.operations; replies = r.replies; steps = steps_forget before r.operations r.replies after keeps r.steps }
