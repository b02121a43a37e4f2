-- What was answered by 201 stands in the list at the end.
use Rattle.std.proofs.Common.{◌≡◌, ◌≢◌, ℕ, zero, suc, ◌+◌, ◌<◌, Bool, true, IsTrue, List, [], ◌∷◌, ◌++◌, Option, Some, None, Result, Ok, Err, length, get_or, refl, sym, ap, ◌∙◌, subst, arith, length-append}
use Rattle.std.specs.Prelude.{Contains, is_some}
use Rattle.std.specs.List.{All, flat_map}
use Rattle.std.proofs.lemmas.List.Elements.{All-nil, All-cons, All-head, All-tail, All-weaker, All-contains, Contains-append_left, Contains-append_right}
use Rattle.std.proofs.lemmas.List.Sorted.{All-permutation}
use Rattle.log_machine.specs.Scheme.{Semantics}
use Rattle.log_machine.specs.declared.reply.LogReply.{LogReply}
use Rattle.log_machine.specs.declared.reply.LogReply.TheVariants as reply
use Rattle.log_lock.specs.declared.turned.Snapshot.{Snapshot}
use Rattle.log_lock.specs.Passes.{StandsAt, numbered}
use Rattle.log_desks.specs.Answered.{placed}
use Rattle.log_desks.specs.Desks.{mine_in, settled_in}
use Rattle.log_machine.specs.Names.{entries_of}
use Rattle.log_machine.specs.declared.names.Filed.{Filed}
use Rattle.log_machine.specs.declared.names.RowName.{RowName}
use Rattle.web_session.specs.Asks.{Scheme, Request}
use Rattle.web_session.specs.Responses.{Answer}
use Rattle.web_session.specs.declared.call.ApiCall.{ApiCall}
use Rattle.web_session.specs.declared.status.Status.{Status}
use Rattle.web_session.specs.declared.status.Status.TheVariants.{Created}
use Rattle.web_workers.specs.AllTold.{AreCreated, CreatedStand, EachCreated, EachIsTold, IsCreated}
use Rattle.web_workers.specs.Closed.{AreToldOf}
use Rattle.web_session.specs.Ports.{AcceptorState}
use Rattle.web_workers.specs.Sessions.{Session}
use Rattle.web_workers.specs.NewEntry.{is_added}
use Rattle.web_workers.specs.Told.{AreAnswersTo, IsAnswerTo, IsAnsweredIn, IsSaidOf, ask_in, refusal_of}
use Rattle.web_workers.specs.Workers.{HasServed, WorkerView}
use Rattle.web_workers.proofs.Rejections.{IsUncreated, done_uncreated}

-- entries that were added stand at their positions
numbered_stand : {E : Type 0} (opening added : List E) → All (StandsAt (added ++ opening)) (numbered (length opening) added)
numbered_stand opening [] = All-nil (StandsAt opening)
numbered_stand opening (x ∷ added) =
    All-cons (StandsAt (x ∷ (added ++ opening))) (length opening + length added + 1, x) (numbered (length opening) added)
    (record { newer = []; older = added ++ opening; whole = refl; position = omega (arith, length-append added opening) })
    (All-weaker (StandsAt (added ++ opening)) (StandsAt (x ∷ (added ++ opening))) (λ entry at. record { newer = x ∷ at.newer; older = at.older; whole = ap (λ l. x ∷ l) at.whole; position = at.position })
    (numbered (length opening) added) (numbered_stand opening added))

-- what is in one of these lists is in all of them together
of_one : {X A : Type 0} (f : X → List A) (xs : List X) (k : ℕ) (d : X) (a : A) → k < length xs → Contains (f (get_or xs k d)) a → Contains (flat_map f xs) a
of_one f [] k d a inside has = absurd (omega (arith, inside))
of_one f (x ∷ xs) zero d a inside has = Contains-append_left (f x) (flat_map f xs) a has
of_one f (x ∷ xs) (suc k) d a inside has = Contains-append_right (f x) (flat_map f xs) a (of_one f xs k d a (omega (arith, inside)) has)

some_of : {A : Type 0} (o : Option A) → is_some o ≡ true → (a : A) × (o ≡ Some a)
some_of None is = absurd (let no : ⊥ = cc in no)
some_of (Some a) is = (a, refl)

-- what is answered to a request that asks nothing isn't 201
refusal_uncreated : (call : Result ApiCall Status) → call ≢ Err Created → refusal_of call ≢ Created
refusal_uncreated (Err status) other is = other (ap Err is)
refusal_uncreated (Ok call) other is = let no : ⊥ = cc in no

module _ {Entry Operation Response : Type 0} (semantics : Semantics Entry Operation Response) (own : Operation → Option Entry) (scheme : Scheme Operation (LogReply Response)) (own_added : (past : List Entry) (operation : Operation) (entry : Entry) → semantics.added past operation ≡ Some entry → own operation ≡ Some entry) (adds : Response → Bool) (adds_added : (past : List Entry) (operation : Operation) → adds (semantics.answer past operation) ≡ is_some (semantics.added past operation)) (created : (said : LogReply Response) → scheme.status said ≡ Created → IsTrue (is_added adds said)) where
  module _ (list : List (Filed Entry)) (seen : List Entry) (mine : List (ℕ × Filed Entry)) (snapshot : (entry : ℕ × Filed Entry) → Contains mine entry → StandsAt list entry) where
    module _ (by : RowName) where
      of_answered : (request : Request) (operation : Operation) (answer : Answer) (response : Response) (front : ℕ) → ask_in semantics own scheme by request ≡ Some operation → answer ≡ record { status = scheme.status (reply.Answered response front); text = scheme.text (reply.Answered response front) }
          → (of : IsAnsweredIn semantics own scheme by seen mine operation response front) → (entry : Entry) × (semantics.added of.past operation ≡ Some entry) → IsCreated semantics own scheme list by request answer
      of_answered request operation answer response front operations is of (entry, added) = record {
        operation = operation;
        operations = operations;
        response = response;
        front = front;
        text = ap (λ (a : Answer). a.text) is;
        entry = entry;
        own_is = own_added of.past operation entry added;
        stands = snapshot (front + 1, record { entry = entry; by = by })
            (of.added (front + 1, record { entry = entry; by = by }) (subst (λ o. Contains (placed (front + 1) o by) (front + 1, record { entry = entry; by = by })) (sym added) (0, omega arith, refl)));
      }

      of_said : (request : Request) (operation : Operation) (answer : Answer) (said : LogReply Response) → ask_in semantics own scheme by request ≡ Some operation → answer ≡ record { status = scheme.status said; text = scheme.text said }
          → IsTrue (is_added adds said) → IsSaidOf semantics own scheme by seen mine operation said → IsCreated semantics own scheme list by request answer
      of_said request operation answer (reply.Answered response front) operations is added of =
          let some : is_some (semantics.added of.past operation) ≡ true = sym (adds_added of.past operation) ∙ (ap adds (sym of.answer) ∙ added) in
          of_answered request operation answer response front operations is of (some_of (semantics.added of.past operation) some)
      of_said request operation answer (reply.DiskFault undecided) operations is added of = absurd (let no : ⊥ = cc in no)
      of_said request operation answer reply.NoMemory operations is added of = absurd (let no : ⊥ = cc in no)

      of_answer : (request : Request) (answer : Answer) (o : Option Operation) → ask_in semantics own scheme by request ≡ o → IsUncreated request → IsAnswerTo semantics own scheme by seen mine (refusal_of request.head.call) o answer
          → answer.status ≡ Created → IsCreated semantics own scheme list by request answer
      of_answer request answer None operations other is at = absurd (refusal_uncreated request.head.call other (ap (λ (a : Answer). a.status) (sym is) ∙ at))
      of_answer request answer (Some operation) operations other (said, is, of) at = of_said request operation answer said operations is (created said (ap (λ (a : Answer). a.status) (sym is) ∙ at)) of

      each_created : (requests : List Request) (answers : List Answer) → All IsUncreated requests → AreAnswersTo semantics own scheme by seen mine requests answers → EachCreated semantics own scheme list by requests answers
      each_created [] answers others all = tt
      each_created (request ∷ requests) [] others all = tt
      each_created (request ∷ requests) (answer ∷ answers) others all = (
        of_answer request answer (ask_in semantics own scheme by request) refl (All-head IsUncreated request requests others) all.0,
        each_created requests answers (All-tail IsUncreated request requests others) all.1,
      )

    are_created : (port number : ℕ) (sessions : List (Session Entry)) (told : AreToldOf semantics own scheme port seen mine number sessions) → AreCreated semantics own scheme list port seen mine number sessions told
    are_created port number [] told = tt
    are_created port number (s ∷ sessions) told = (
      each_created (record { desk = port; row = number }) told.0.done told.0.answers (done_uncreated s.bytes s.text told.0.done told.0.answers s.end told.0.text) told.0.each,
      are_created port (number + 1) sessions told.1,
    )

  module _ {P : Type 0} (tells : P → AcceptorState) (faults : P → ℕ) (limit : ℕ) (opening closed : Snapshot (Filed Entry)) (before after : List (WorkerView Entry P)) (served : HasServed semantics own scheme tells faults limit opening closed before after) where
    -- what a worker admitted of its own stands in the list at the end
    mine_stands : (k : ℕ) (d : WorkerView Entry P) (inside : k < length before) (entry : ℕ × Filed Entry) → Contains (served.each k d inside).last.mine entry → StandsAt closed.list entry
    mine_stands k d inside entry has =
        let ran = served.ran in
        let mine = flat_map (λ (d : WorkerView Entry P). mine_in d.handle) served.workers in
        let settled = flat_map (λ (d : WorkerView Entry P). settled_in d.handle) served.workers in
        let all = All-permutation (StandsAt (ran.added ++ opening.list)) (numbered (length opening.list) ran.added) (mine ++ settled) ran.once (numbered_stand opening.list ran.added) in
        let there : Contains mine entry = of_one (λ (d : WorkerView Entry P). mine_in d.handle) served.workers k d entry (omega (arith, inside, served.count)) (subst (λ p. Contains (mine_in p) entry) (sym (served.each k d inside).has) has) in
        subst (λ l. StandsAt l entry) (sym ran.list) (All-contains (StandsAt (ran.added ++ opening.list)) (mine ++ settled) entry all (Contains-append_left mine settled entry there))

    pub created_stand : (told : EachIsTold semantics own scheme tells faults limit opening closed before after served) → CreatedStand semantics own scheme tells faults limit opening closed before after served told
    created_stand told k d inside honest =
        are_created closed.list (entries_of closed.list) (served.each k d inside).last.mine (mine_stands k d inside) (k + 1) 1 (served.each k d inside).served.sessions (told k d inside honest).told
