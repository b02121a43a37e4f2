-- What the requests of a connection were told, by the turns of one pass.
use Rattle.std.specs.Prelude.{◌≡◌, ◌≢◌, ◌⊎◌, ◌+◌, ◌<◌, ◌≤◌, ℕ, List, [], ◌∷◌, ◌++◌, length, Option, Some, None, Result, Ok, Err, Contains}
use Rattle.std.specs.List.{All}
use Rattle.log_machine.specs.Scheme.{Semantics}
use Rattle.log_machine.specs.Submits.{after_ask}
use Rattle.log_machine.specs.declared.reply.LogReply.{LogReply}
use Rattle.log_machine.specs.declared.reply.LogReply.TheVariants as reply
use Rattle.log_lock.specs.Passes.{IsOlder, Known}
use Rattle.log_desks.specs.Answered.{placed}
use Rattle.log_machine.specs.Names.{entries_of, filed_by}
use Rattle.log_machine.specs.declared.names.Filed.{Filed}
use Rattle.log_machine.specs.declared.names.RowName.{RowName}
use Rattle.web_session.specs.Asks.{Scheme, Request}
use Rattle.web_session.specs.Responses.{Answer, failure_of}
use Rattle.web_session.specs.declared.call.ApiCall.{ApiCall}
use Rattle.web_session.specs.declared.status.Status.{Status}
use Rattle.web_session.specs.declared.status.Status.TheVariants.{BadRequest, NoStorage, Unavailable}

-- how many of these answers are 503
abbrev pub one_if_unavailable : Status → ℕ
one_if_unavailable Unavailable = 1
one_if_unavailable _ = 0

abbrev pub count_unavailable : List Answer → ℕ
count_unavailable [] = 0
count_unavailable (answer ∷ answers) = one_if_unavailable answer.status + count_unavailable answers

-- how many are 507
abbrev pub one_if_no_storage : Status → ℕ
one_if_no_storage NoStorage = 1
one_if_no_storage _ = 0

abbrev pub count_no_storage : List Answer → ℕ
count_no_storage [] = 0
count_no_storage (answer ∷ answers) = one_if_no_storage answer.status + count_no_storage answers

abbrev pub one_if_some : {A : Type 0} → Option A → ℕ
one_if_some None = 0
one_if_some (Some a) = 1

-- positions that rise, from past the one number up to the other
abbrev pub Rise : {E : Type 0} → ℕ → ℕ → List (ℕ × E) → Type 0
Rise low high [] = low ≤ high
Rise low high (entry ∷ entries) = low < entry.0 × Rise entry.0 high entries

-- the status that rejects a request's target is neither 503 nor 507
abbrev pub IsAvailable : Request → Type 0
IsAvailable request = (request.head.call ≢ Err Unavailable) × (request.head.call ≢ Err NoStorage)

-- the status of a request that asks nothing: that which rejects its target, or 400
abbrev pub refusal_of : Result ApiCall Status → Status
refusal_of (Err status) = status
refusal_of (Ok call) = BadRequest

module _ {Entry Operation Response : Type 0} (semantics : Semantics Entry Operation Response) (own : Operation → Option Entry) (scheme : Scheme Operation (LogReply Response)) (by : RowName) where
  -- what a request asks, where it is an ask
  abbrev pub ask_by : Result ApiCall Status → List ℕ → Option Operation
  ask_by (Err status) body = None
  ask_by (Ok call) body = scheme.ask_of call body

  abbrev pub ask_in : Request → Option Operation
  ask_in request = ask_by request.head.call request.body

  -- how many of these requests are asks
  abbrev pub count_asks : List Request → ℕ
  count_asks [] = 0
  count_asks (request ∷ requests) = one_if_some (ask_in request) + count_asks requests

  -- the entry is the own one of one of these requests
  abbrev pub IsOwnOf : List Request → Filed Entry → Type 0
  IsOwnOf requests filed = (request : Request) × (operation : Operation) × Contains requests request × (ask_in request ≡ Some operation) × (filed_by (own operation) by ≡ Some filed)

  -- An ask was answered on `front` entries, which are the older part of the list that was seen. What it adds stands there, at
  -- the place past them, and is one of the pass's own.
  pub record IsAnsweredIn (seen : List Entry) (mine : List (ℕ × Filed Entry)) (operation : Operation) (response : Response) (front : ℕ) : Type 0 where
    pub past : List Entry
    pub answer : response ≡ semantics.answer past operation
    pub size : front ≡ length past
    pub stands : IsOlder (after_ask semantics past operation) seen
    pub added : (entry : ℕ × Filed Entry) → Contains (placed (front + 1) (semantics.added past operation) by) entry → Contains mine entry

  -- what a reply says of the list
  abbrev pub IsSaidOf : List Entry → List (ℕ × Filed Entry) → Operation → LogReply Response → Type 0
  IsSaidOf seen mine operation (reply.Answered response front) = IsAnsweredIn seen mine operation response front
  IsSaidOf seen mine operation (reply.DiskFault undecided) = Unit {0}
  IsSaidOf seen mine operation reply.NoMemory = Unit {0}

  -- the answer to a request: that of a reply to its ask, or this status alone where it asks nothing
  abbrev pub IsAnswerTo : List Entry → List (ℕ × Filed Entry) → Status → Option Operation → Answer → Type 0
  IsAnswerTo seen mine refusal None answer = answer ≡ failure_of refusal
  IsAnswerTo seen mine refusal (Some operation) answer = (said : LogReply Response) × (answer ≡ record { status = scheme.status said; text = scheme.text said }) × IsSaidOf seen mine operation said

  -- each of these requests has its answer
  abbrev pub AreAnswersTo : List Entry → List (ℕ × Filed Entry) → List Request → List Answer → Type 0
  AreAnswersTo seen mine [] [] = Unit {0}
  AreAnswersTo seen mine [] (answer ∷ answers) = ⊥
  AreAnswersTo seen mine (request ∷ requests) [] = ⊥
  AreAnswersTo seen mine (request ∷ requests) (answer ∷ answers) = IsAnswerTo seen mine (refusal_of request.head.call) (ask_in request) answer × AreAnswersTo seen mine requests answers

  -- What these requests and answers made of what a pass knows. What it admitted besides is of these requests alone, each entry
  -- once and past the list that it had seen; so is what it left undecided besides. It was told of a fault for each 503, and of no other,
  -- and of want of memory for each 507. It took a turn for each ask.
  pub record HasTold (requests : List Request) (answers : List Answer) (before after : Known (Filed Entry)) : Type 0 where
    pub each : AreAnswersTo (entries_of after.seen) after.mine requests answers
    pub added : List (ℕ × Filed Entry)
    pub mine : after.mine ≡ before.mine ++ added
    pub rise : Rise (length before.seen) (length after.seen) added
    pub owned : All (λ (entry : ℕ × Filed Entry). IsOwnOf requests entry.1) added
    pub left : (entry : ℕ × Filed Entry) → Contains after.left entry → Contains before.left entry ⊎ IsOwnOf requests entry.1
    pub faults : All IsAvailable requests → after.faults ≡ before.faults + count_unavailable answers
    pub wants : All IsAvailable requests → after.wants ≡ before.wants + count_no_storage answers
    pub turns : after.turns ≡ before.turns + count_asks requests
    pub seen : IsOlder (entries_of before.seen) (entries_of after.seen)
    pub opening : after.opening ≡ before.opening
    pub lock : after.lock ≡ before.lock
    pub share : after.allowance ≡ before.allowance
