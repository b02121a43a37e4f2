-- The session: a relation of the bytes that the link brings, the clerk's replies and what is written, in which a head block
-- that occurs says what `Heads.Judges` has of it. The pieces in which the bytes come don't enter it. Own format, over HTTP/1.1 (RFC 9112).
use Rattle.std.specs.Prelude.{◌≡◌, ◌+◌, ◌<◌, ◌≤◌, ℕ, suc, zero, true, false, if◌then◌else◌, nat_le, List, [], ◌∷◌, ◌++◌, length, take, drop, None, Some, Result, Ok, Err}
use Rattle.web_session.specs.Ends.{has_begun, head_end}
use Rattle.web_session.specs.Responses.{Answer, response_of, failure_of}
use Rattle.web_session.specs.Asks.{Request}
use Rattle.web_session.specs.Heads.{Judges}
use Rattle.web_session.specs.ConnectionState.{IsPrefix}
use Rattle.web_session.specs.declared.head.Head.{Head}
use Rattle.web_session.specs.declared.status.Status.{Status}
use Rattle.web_session.specs.declared.status.Status.TheVariants.{HeadTooLarge}
use Rattle.web_session.specs.declared.stop.Stop.{Stop}
use Rattle.web_session.specs.declared.stop.Stop.TheVariants.{Fault, NoMemory as NoRoom}
use Rattle.web_session.specs.declared.end.End.{End}
use Rattle.web_session.specs.declared.end.End.TheVariants.{Closed, Cut, Rejected, Limit, ConnectionFault, NoMemory}

-- a request, and how many bytes it takes
pub record Sized : Type 0 where
  pub request : Request
  pub size : ℕ

-- what the bytes so far tell of the next request: not yet enough, the status that rejects its head, or the request whole
pub data Told : Type 0 where
  more : Told
  bad : Status → Told
  whole : Sized → Told

-- the request with a head block of k bytes
abbrev pub request_at : List ℕ → ℕ → Head → Sized
request_at bytes k head = record { request = record { head = head; body = take head.length (drop k bytes) }; size = k + head.length }

-- a body is awaited whole
abbrev pub told_body : List ℕ → ℕ → Result Head Status → Told
told_body bytes k (Err status) = bad status
told_body bytes k (Ok head) = if nat_le (k + head.length) (length bytes) then whole (request_at bytes k head) else more

-- what the bytes so far tell of the next request: its head block is sought in the first 16,384 bytes
pub data Tells (bytes : List ℕ) : Told → Type 0 where
  unended : head_end (take 16384 bytes) ≡ None → length bytes < 16384 → Tells bytes more
  too_large : head_end (take 16384 bytes) ≡ None → 16384 ≤ length bytes → Tells bytes (bad HeadTooLarge)
  ended : (k : ℕ) (said : Result Head Status) → head_end (take 16384 bytes) ≡ Some k → Judges (take k bytes) said → Tells bytes (told_body bytes k said)

-- the response to a request, and to a head that is rejected
abbrev pub response_to : Request → Answer → List ℕ
response_to r answer = response_of r.head.closes answer

abbrev pub rejection_of : Status → List ℕ
rejection_of status = response_of true (failure_of status)

-- these requests come first, and none of them closes; of so many that may be answered so many are left, in the rest of the bytes
pub data Begins : ℕ → List ℕ → List Request → ℕ → List ℕ → Type 0 where
  none : (n : ℕ) (bytes : List ℕ) → Begins n bytes [] n bytes
  goes : (n : ℕ) (bytes : List ℕ) (s : Sized) (rs : List Request) (m : ℕ) (rest : List ℕ) → Tells bytes (whole s) → s.request.head.closes ≡ false → Begins n (drop s.size bytes) rs m rest
      → Begins (suc n) bytes (s.request ∷ rs) m rest

-- what is written behind the last response, and how the session ends
pub record Ending : Type 0 where
  pub text : List ℕ
  pub way : End

-- what comes behind them: the last request, where one closes, and how the session ends
pub data Finishes : ℕ → List ℕ → List Request → Ending → Type 0 where
  full : (bytes : List ℕ) → Finishes zero bytes [] (record { text = []; way = Limit })
  over : (n : ℕ) (bytes : List ℕ) → Tells bytes more → Finishes (suc n) bytes [] (record { text = []; way = if has_begun bytes then Cut else Closed })
  rejected : (n : ℕ) (bytes : List ℕ) (status : Status) → Tells bytes (bad status) → Finishes (suc n) bytes [] (record { text = rejection_of status; way = Rejected })
  closing : (n : ℕ) (bytes : List ℕ) (s : Sized) → Tells bytes (whole s) → s.request.head.closes ≡ true → Finishes (suc n) bytes (s.request ∷ []) (record { text = []; way = Closed })

-- all the requests that the bytes bring, of no more than so many, and how the session ends
pub record Brings (limit : ℕ) (bytes : List ℕ) (requests : List Request) (ending : Ending) : Type 0 where
  pub done : List Request
  pub left : ℕ
  pub rest : List ℕ
  pub begins : Begins limit bytes done left rest
  pub last : List Request
  pub finishes : Finishes left rest last ending
  pub all : requests ≡ done ++ last

-- the responses to these requests by these replies
abbrev pub responses : List Request → List Answer → List ℕ
responses [] replies = []
responses (r ∷ rest) [] = []
responses (r ∷ rest) (reply ∷ replies) = response_to r reply ++ responses rest replies

-- a run of a clerk: the asks of these requests one after another, with these replies
abbrev pub Run : {C : Type 0} → (C → Request → Answer → C → Type 0) → C → List Request → List Answer → C → Type 0
Run answers before [] [] after = after ≡ before
Run answers before [] (reply ∷ replies) after = ⊥
Run answers before (r ∷ rest) [] after = ⊥
Run {C = C} answers before (r ∷ rest) (reply ∷ replies) after = (mid : C) × answers before r reply mid × Run answers mid rest replies after

-- all that is written for these requests, replies and ending
abbrev pub written : List Request → List Answer → Ending → List ℕ
written rs replies e = responses rs replies ++ e.text

-- the exchange of all the bytes, for a run of the clerk
pub record IsExchange {C : Type 0} (answers : C → Request → Answer → C → Type 0) (limit : ℕ) (bytes : List ℕ) (before after : C) (old new : List ℕ) (way : End) : Type 0 where
  pub requests : List Request
  pub ending : Ending
  pub brings : Brings limit bytes requests ending
  pub replies : List Answer
  pub run : Run answers before requests replies after
  pub text : new ≡ old ++ written requests replies ending
  pub way_is : way ≡ ending.way

-- where a session stops that can't go on: nobody was asked and nothing written; or a request was asked, and a front of its
-- response written; or a front of the rejection. Where none may be answered any more, nobody was asked.
pub data Stops {C : Type 0} (answers : C → Request → Answer → C → Type 0) (bytes : List ℕ) (before after : C) (out : List ℕ) : ℕ → Type 0 where
  unasked : (n : ℕ) → after ≡ before → out ≡ [] → Stops answers bytes before after out n
  asked : (n : ℕ) (s : Sized) (reply : Answer) → Tells bytes (whole s) → answers before s.request reply after → IsPrefix out (response_to s.request reply) → Stops answers bytes before after out (suc n)
  refused : (n : ℕ) (status : Status) → Tells bytes (bad status) → after ≡ before → IsPrefix out (rejection_of status) → Stops answers bytes before after out (suc n)

-- a front of an exchange: the responses to the requests that come first, and what stands behind them where the session stopped
pub record IsFront {C : Type 0} (answers : C → Request → Answer → C → Type 0) (limit : ℕ) (bytes : List ℕ) (before after : C) (old new : List ℕ) : Type 0 where
  pub done : List Request
  pub left : ℕ
  pub rest : List ℕ
  pub begins : Begins limit bytes done left rest
  pub replies : List Answer
  pub mid : C
  pub run : Run answers before done replies mid
  pub out : List ℕ
  pub stops : Stops answers rest mid after out left
  pub text : new ≡ old ++ (responses done replies ++ out)

-- a front of the exchange of these requests: some of them were asked, and whatever the clerk would reply to the others, what
-- was written is a prefix of all that is to be written
pub record IsFrontOf {C : Type 0} (answers : C → Request → Answer → C → Type 0) (requests : List Request) (ending : Ending) (before after : C) (old new : List ℕ) : Type 0 where
  pub done : List Request
  pub others : List Request
  pub replies : List Answer
  pub cut : requests ≡ done ++ others
  pub run : Run answers before done replies after
  pub out : List ℕ
  pub text : new ≡ old ++ out
  pub front : (later : List Answer) → IsPrefix out (written requests (replies ++ later) ending)

-- what a session leaves, by its end
abbrev pub Serves : {C : Type 0} → (C → Request → Answer → C → Type 0) → ℕ → List ℕ → C → C → List ℕ → List ℕ → End → Type 0
Serves answers limit bytes before after old new ConnectionFault = IsFront answers limit bytes before after old new
Serves answers limit bytes before after old new NoMemory = IsFront answers limit bytes before after old new
Serves answers limit bytes before after old new Closed = IsExchange answers limit bytes before after old new Closed
Serves answers limit bytes before after old new Cut = IsExchange answers limit bytes before after old new Cut
Serves answers limit bytes before after old new Rejected = IsExchange answers limit bytes before after old new Rejected
Serves answers limit bytes before after old new Limit = IsExchange answers limit bytes before after old new Limit

-- the bytes behind the requests that were answered, but a last one that closes
abbrev pub rest_of : {C : Type 0} → (answers : C → Request → Answer → C → Type 0) → (limit : ℕ) → (bytes : List ℕ) → (before after : C) → (old new : List ℕ) → (end : End) → Serves answers limit bytes before after old new end → List ℕ
rest_of answers limit bytes before after old new ConnectionFault s = s.rest
rest_of answers limit bytes before after old new NoMemory s = s.rest
rest_of answers limit bytes before after old new Closed s = s.brings.rest
rest_of answers limit bytes before after old new Cut s = s.brings.rest
rest_of answers limit bytes before after old new Rejected s = s.brings.rest
rest_of answers limit bytes before after old new Limit s = s.brings.rest

-- and of these no more than a head, a body and a piece less one were taken from the link
abbrev pub ServesNear : {C : Type 0} → (C → Request → Answer → C → Type 0) → ℕ → List ℕ → List ℕ → C → C → List ℕ → List ℕ → End → Type 0
ServesNear answers limit bytes unread before after old new end =
    (s : Serves answers limit bytes before after old new end) × (length (rest_of answers limit bytes before after old new end s) ≤ length unread + 86015)

-- a session that goes on: `limit` requests might come in `bytes`, and `n` may in the rest
pub record IsGoing {C : Type 0} (answers : C → Request → Answer → C → Type 0) (limit : ℕ) (bytes : List ℕ) (before after : C) (old new : List ℕ) (n : ℕ) (rest : List ℕ) : Type 0 where
  pub done : List Request
  pub replies : List Answer
  pub begins : Begins limit bytes done n rest
  pub run : Run answers before done replies after
  pub text : new ≡ old ++ responses done replies

-- one request was asked, and its response written
pub record IsAnswered {C : Type 0} (answers : C → Request → Answer → C → Type 0) (r : Request) (before after : C) (old new : List ℕ) : Type 0 where
  pub reply : Answer
  pub run : answers before r reply after
  pub text : new ≡ old ++ response_to r reply

-- one request was asked, and a front of its response written
pub record IsHalfAnswered {C : Type 0} (answers : C → Request → Answer → C → Type 0) (r : Request) (before after : C) (old new : List ℕ) : Type 0 where
  pub reply : Answer
  pub run : answers before r reply after
  pub out : List ℕ
  pub text : new ≡ old ++ out
  pub front : IsPrefix out (response_to r reply)

-- nothing was asked or written
abbrev pub IsUntouched : {C : Type 0} → C → C → List ℕ → List ℕ → Type 0
IsUntouched before after old new = (after ≡ before) × (new ≡ old)

-- how a session ends that can't go on
abbrev pub end_of : Stop → End
end_of Fault = ConnectionFault
end_of NoRoom = NoMemory
