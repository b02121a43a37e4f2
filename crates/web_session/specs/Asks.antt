-- What the requests of a session ask, and what is answered.
use Rattle.std.specs.Prelude.{◌≡◌, ◌⊎◌, ◌≤◌, ℕ, List, [], ◌∷◌, Option, Some, None, Result, Ok, Err}
use Rattle.io_traits.specs.Faults.{Rose}
use Rattle.web_session.specs.Responses.{Answer, failure_of}
use Rattle.web_session.specs.declared.call.ApiCall.{ApiCall}
use Rattle.web_session.specs.declared.head.Head.{Head}
use Rattle.web_session.specs.declared.status.Status.{Status}
use Rattle.web_session.specs.declared.status.Status.TheVariants.{BadRequest, Unavailable}

-- what a request with a body asks, and the status and the body that give a reply
pub record Scheme (Operation Reply : Type 0) : Type 0 where
  pub ask_of : ApiCall → List ℕ → Option Operation
  pub status : Reply → Status
  pub text : Reply → List ℕ

-- a request that has come whole
pub record Request : Type 0 where
  pub head : Head
  pub body : List ℕ

-- one ask of a clerk: 503 is answered only where its count of disk faults rose
pub record IsAsked {C Operation Reply : Type 0} (asked : C → Operation → Reply → C → Type 0) (faults : C → ℕ) (status : Reply → Status) (before : C) (operation : Operation) (reply : Reply) (after : C) : Type 0 where
  pub step : asked before operation reply after
  pub later : faults before ≤ faults after
  pub cause : status reply ≡ Unavailable → Rose (faults before) (faults after)

-- the answer to an ask is the clerk's reply; one to a status asks nobody
abbrev pub AnswersOperation : {C Operation Reply : Type 0} → Scheme Operation Reply → (C → Operation → Reply → C → Type 0) → (C → ℕ) → C → Option Operation → Answer → C → Type 0
AnswersOperation scheme asked faults before None answer after = (answer ≡ failure_of BadRequest) × (after ≡ before)
AnswersOperation {Reply = Reply} scheme asked faults before (Some operation) answer after =
    (reply : Reply) × IsAsked asked faults scheme.status before operation reply after × (answer ≡ record { status = scheme.status reply; text = scheme.text reply })

abbrev pub AnswersCall : {C Operation Reply : Type 0} → Scheme Operation Reply → (C → Operation → Reply → C → Type 0) → (C → ℕ) → C → Result ApiCall Status → List ℕ → Answer → C → Type 0
AnswersCall scheme asked faults before (Err status) body answer after = (answer ≡ failure_of status) × (after ≡ before)
AnswersCall scheme asked faults before (Ok call) body answer after = AnswersOperation scheme asked faults before (scheme.ask_of call body) answer after

-- a request, its answer, and the clerk before and after
abbrev pub Answers : {C Operation Reply : Type 0} → Scheme Operation Reply → (C → Operation → Reply → C → Type 0) → (C → ℕ) → C → Request → Answer → C → Type 0
Answers scheme asked faults before request answer after = AnswersCall scheme asked faults before request.head.call request.body answer after

-- the clerk came from one to the other by asks alone
abbrev pub Steps : {C Operation Reply : Type 0} → (C → Operation → Reply → C → Type 0) → C → List Operation → List Reply → C → Type 0
Steps asked before [] [] after = after ≡ before
Steps asked before [] (reply ∷ replies) after = ⊥
Steps asked before (operation ∷ operations) [] after = ⊥
Steps {C = C} asked before (operation ∷ operations) (reply ∷ replies) after = (mid : C) × asked before operation reply mid × Steps asked mid operations replies after

pub record Reaches {C Operation Reply : Type 0} (asked : C → Operation → Reply → C → Type 0) (before after : C) : Type 0 where
  pub operations : List Operation
  pub replies : List Reply
  pub steps : Steps asked before operations replies after

-- nobody was asked, or there is an answer that wasn't written
abbrev pub IsStopped : {C : Type 0} → (Answer → Type 0) → C → C → Type 0
IsStopped answers before after = (after ≡ before) ⊎ ((answer : Answer) × answers answer)
