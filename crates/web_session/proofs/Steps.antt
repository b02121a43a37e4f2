-- One request of a session, and sessions one behind the other.
use Rattle.std.proofs.Common.{arith, ◌≡◌, ◌∙◌, sym, ap, subst, refl, ℕ, suc, zero, ◌≤◌, ◌<◌, ◌-◌, ◌+◌, ◌⊎◌, inl, inr, Bool, true, false, if◌then◌else◌, List, [], ◌∷◌, ◌++◌, length, drop, append_assoc, length-append, length-drop}
use Rattle.std.proofs.lemmas.List.{drop-append-le}
use Rattle.web_session.specs.Asks.{Request}
use Rattle.web_session.specs.Ends.{has_begun}
use Rattle.web_session.specs.Responses.{Answer}
use Rattle.web_session.specs.ConnectionState.{AppendsFront}
use Rattle.web_session.specs.Exchange.{Sized, more, bad, whole, Tells, Begins, none, goes, Finishes, full, over, rejected, closing, Stops, unasked, asked, refused, response_to, rejection_of, end_of, Ending, responses, written, Run, IsExchange, IsFront, Serves, ServesNear, rest_of, IsGoing, IsAnswered, IsHalfAnswered, IsUntouched, request_at}
use Rattle.std.specs.Prelude.{Option, MatchOption}
use Rattle.web_session.specs.declared.head.Head.{Head}
use Rattle.web_session.specs.declared.status.Status.{Status}
use Rattle.web_session.specs.declared.stop.Stop.{Stop}
use Rattle.web_session.specs.declared.stop.Stop.TheVariants.{Fault, NoMemory as NoRoom}
use Rattle.web_session.specs.declared.end.End.{End}
use Rattle.web_session.specs.declared.end.End.TheVariants.{Closed, Cut, Rejected, Limit, ConnectionFault, NoMemory}
use Rattle.web_session.proofs.EndWalk.{append_nil}

-- an exchange none of whose requests comes before the last
exchange_by : {C : Type 0} (answers : C → Request → Answer → C → Type 0) (limit : ℕ) (bytes : List ℕ) (before after : C) (old new : List ℕ) (last : List Request) (e : Ending) (replies : List Answer)
    → Finishes limit bytes last e → Run answers before last replies after → new ≡ old ++ written last replies e → IsExchange answers limit bytes before after old new e.way
exchange_by answers limit bytes before after old new last e replies finishes run text = record {
  requests = last;
  ending = e;
  brings = record { done = []; left = limit; rest = bytes; begins = none limit bytes; last = last; finishes = finishes; all = refl };
  replies = replies;
  run = run;
  text = text;
  way_is = refl;
}

-- a front of an exchange before whose first response the session stopped
front_by : {C : Type 0} (answers : C → Request → Answer → C → Type 0) (limit : ℕ) (bytes : List ℕ) (before after : C) (old new out : List ℕ) → Stops answers bytes before after out limit → new ≡ old ++ out → IsFront answers limit bytes before after old new
front_by answers limit bytes before after old new out stops text = record {
  done = [];
  left = limit;
  rest = bytes;
  begins = none limit bytes;
  replies = [];
  mid = before;
  run = refl;
  out = out;
  stops = stops;
  text = text;
}

-- nothing was asked or written
pub front_none : {C : Type 0} (answers : C → Request → Answer → C → Type 0) (limit : ℕ) (bytes : List ℕ) (before after : C) (old new : List ℕ) → after ≡ before → new ≡ old → IsFront answers limit bytes before after old new
front_none answers limit bytes before after old new same text = front_by answers limit bytes before after old new [] (unasked limit same refl) (text ∙ sym (append_nil old))

-- the input ended
pub step_more : {C : Type 0} (answers : C → Request → Answer → C → Type 0) (n : ℕ) (bytes : List ℕ) (before after : C) (old new : List ℕ) → Tells bytes more → after ≡ before → new ≡ old
    → IsExchange answers (suc n) bytes before after old new (if has_begun bytes then Cut else Closed)
step_more answers n bytes before after old new is same text =
    exchange_by answers (suc n) bytes before after old new [] (record { text = []; way = if has_begun bytes then Cut else Closed }) [] (over n bytes is) same (text ∙ sym (append_nil old))

-- the head was rejected
pub step_bad : {C : Type 0} (answers : C → Request → Answer → C → Type 0) (n : ℕ) (bytes : List ℕ) (before after : C) (old new : List ℕ) (status : Status) → Tells bytes (bad status) → after ≡ before → new ≡ old ++ rejection_of status
    → IsExchange answers (suc n) bytes before after old new Rejected
step_bad answers n bytes before after old new status is same text =
    exchange_by answers (suc n) bytes before after old new [] (record { text = rejection_of status; way = Rejected }) [] (rejected n bytes status is) same text

pub step_bad_front : {C : Type 0} (answers : C → Request → Answer → C → Type 0) (n : ℕ) (bytes : List ℕ) (before after : C) (old new : List ℕ) (status : Status) → Tells bytes (bad status) → after ≡ before → AppendsFront old new (rejection_of status)
    → IsFront answers (suc n) bytes before after old new
step_bad_front answers n bytes before after old new status is same (out, front, text) = front_by answers (suc n) bytes before after old new out (refused n status is same front) text

-- a request was answered, and closes
pub step_closing : {C : Type 0} (answers : C → Request → Answer → C → Type 0) (n : ℕ) (bytes : List ℕ) (before after : C) (old new : List ℕ) (s : Sized) → Tells bytes (whole s) → s.request.head.closes ≡ true → IsAnswered answers s.request before after old new
    → IsExchange answers (suc n) bytes before after old new Closed
step_closing answers n bytes before after old new s is closes answered =
    exchange_by answers (suc n) bytes before after old new (s.request ∷ []) (record { text = []; way = Closed }) (answered.reply ∷ []) (closing n bytes s is closes)
    (after, answered.run, refl)
    (answered.text ∙ ap (λ (l : List ℕ). old ++ l) (sym (append_nil (response_to s.request answered.reply ++ []) ∙ append_nil (response_to s.request answered.reply))))

-- a request was answered, and the session goes on
pub step_going : {C : Type 0} (answers : C → Request → Answer → C → Type 0) (n : ℕ) (bytes rest : List ℕ) (before after : C) (old new : List ℕ) (s : Sized) → Tells bytes (whole s) → s.request.head.closes ≡ false → rest ≡ drop s.size bytes → IsAnswered answers s.request before after old new
    → IsGoing answers (suc n) bytes before after old new n rest
step_going answers n bytes rest before after old new s is closes rest_is answered = record {
  done = s.request ∷ [];
  replies = answered.reply ∷ [];
  begins = goes n bytes s [] n rest is closes (subst (λ (l : List ℕ). Begins n l [] n rest) rest_is (none n rest));
  run = (after, answered.run, refl);
  text = answered.text ∙ ap (λ (l : List ℕ). old ++ l) (sym (append_nil (response_to s.request answered.reply)));
}

-- a request was asked, and a front of its response written
pub step_half : {C : Type 0} (answers : C → Request → Answer → C → Type 0) (n : ℕ) (bytes : List ℕ) (before after : C) (old new : List ℕ) (s : Sized) → Tells bytes (whole s) → IsHalfAnswered answers s.request before after old new
    → IsFront answers (suc n) bytes before after old new
step_half answers n bytes before after old new s is half = front_by answers (suc n) bytes before after old new half.out (asked n s half.reply is half.run half.front) half.text

-- nothing was asked, or a request was and a front of its response written
pub step_stopped : {C : Type 0} (answers : C → Request → Answer → C → Type 0) (n : ℕ) (bytes : List ℕ) (before after : C) (old new : List ℕ) (s : Sized) → Tells bytes (whole s)
    → IsUntouched before after old new ⊎ IsHalfAnswered answers s.request before after old new → IsFront answers (suc n) bytes before after old new
step_stopped answers n bytes before after old new s is (inl untouched) = front_none answers (suc n) bytes before after old new untouched.0 untouched.1
step_stopped answers n bytes before after old new s is (inr half) = step_half answers n bytes before after old new s is half

pub half_of : {C : Type 0} (answers : C → Request → Answer → C → Type 0) (r : Request) (before after : C) (old new : List ℕ) → IsAnswered answers r before after old new → IsHalfAnswered answers r before after old new
half_of answers r before after old new answered = record {
  reply = answered.reply;
  run = answered.run;
  out = response_to r answered.reply;
  text = answered.text;
  front = ([], sym (append_nil (response_to r answered.reply)));
}

-- as many as may be were answered
pub step_limit : {C : Type 0} (answers : C → Request → Answer → C → Type 0) (bytes : List ℕ) (before after : C) (old new : List ℕ) → after ≡ before → new ≡ old → IsExchange answers 0 bytes before after old new Limit
step_limit answers bytes before after old new same text =
    exchange_by answers 0 bytes before after old new [] (record { text = []; way = Limit }) [] (full bytes) same (text ∙ sym (append_nil old))

pub run_append : {C : Type 0} (answers : C → Request → Answer → C → Type 0) (rs : List Request) (replies : List Answer) (rs' : List Request) (replies' : List Answer) (a b c : C) → Run answers a rs replies b → Run answers b rs' replies' c → Run answers a (rs ++ rs') (replies ++ replies') c
run_append answers [] [] rs' replies' a b c one two = subst (λ x. Run answers x rs' replies' c) one two
run_append answers [] (reply ∷ replies) rs' replies' a b c one two = absurd one
run_append answers (r ∷ rs) [] rs' replies' a b c one two = absurd one
run_append answers (r ∷ rs) (reply ∷ replies) rs' replies' a b c (mid, is, one) two = (mid, is, run_append answers rs replies rs' replies' mid b c one two)

pub responses_append : {C : Type 0} (answers : C → Request → Answer → C → Type 0) (rs : List Request) (replies : List Answer) (rs' : List Request) (replies' : List Answer) (a b : C) → Run answers a rs replies b → responses (rs ++ rs') (replies ++ replies') ≡ responses rs replies ++ responses rs' replies'
responses_append answers [] [] rs' replies' a b one = refl
responses_append answers [] (reply ∷ replies) rs' replies' a b one = absurd one
responses_append answers (r ∷ rs) [] rs' replies' a b one = absurd one
responses_append answers (r ∷ rs) (reply ∷ replies) rs' replies' a b (mid, is, one) =
    ap (λ (l : List ℕ). response_to r reply ++ l) (responses_append answers rs replies rs' replies' mid b one)
    ∙ sym (append_assoc (response_to r reply) (responses rs replies) (responses rs' replies'))

-- what is written of all, by what is written of the rest
pub written_append : {C : Type 0} (answers : C → Request → Answer → C → Type 0) (rs : List Request) (replies : List Answer) (rs' : List Request) (replies' : List Answer) (e : Ending) (a b : C) → Run answers a rs replies b → written (rs ++ rs') (replies ++ replies') e ≡ responses rs replies ++ written rs' replies' e
written_append answers rs replies rs' replies' e a b one =
    ap (λ (l : List ℕ). l ++ e.text) (responses_append answers rs replies rs' replies' a b one)
    ∙ append_assoc (responses rs replies) (responses rs' replies') (e.text)

begins_append : (n : ℕ) (bytes : List ℕ) (rs : List Request) (m : ℕ) (rest : List ℕ) (rs' : List Request) (l : ℕ) (rest' : List ℕ) → Begins n bytes rs m rest → Begins m rest rs' l rest' → Begins n bytes (rs ++ rs') l rest'
begins_append n bytes [] m rest rs' l rest' (none _ _) two = two
begins_append (suc n) bytes _ m rest rs' l rest' (goes _ _ s rs _ _ tells closes one) two = goes n bytes s (rs ++ rs') l rest' tells closes (begins_append n (drop s.size bytes) rs m rest rs' l rest' one two)

pub append_requests : (xs ys zs : List Request) → (xs ++ ys) ++ zs ≡ xs ++ (ys ++ zs)
append_requests xs ys zs = append_assoc xs ys zs

pub going_none : {C : Type 0} (answers : C → Request → Answer → C → Type 0) (limit : ℕ) (bytes : List ℕ) (a b : C) (old new : List ℕ) → b ≡ a → new ≡ old → IsGoing answers limit bytes a b old new limit bytes
going_none answers limit bytes a b old new same text = record { done = []; replies = []; begins = none limit bytes; run = same; text = text ∙ sym (append_nil old) }

pub going_going : {C : Type 0} (answers : C → Request → Answer → C → Type 0) (limit : ℕ) (bytes : List ℕ) (a b c : C) (old mid new : List ℕ) (n : ℕ) (rest : List ℕ) (m : ℕ) (rest' : List ℕ)
    → IsGoing answers limit bytes a b old mid n rest → IsGoing answers n rest b c mid new m rest' → IsGoing answers limit bytes a c old new m rest'
going_going answers limit bytes a b c old mid new n rest m rest' g h = record {
  done = g.done ++ h.done;
  replies = g.replies ++ h.replies;
  begins = begins_append limit bytes g.done n rest h.done m rest' g.begins h.begins;
  run = run_append answers g.done g.replies h.done h.replies a b c g.run h.run;
  text = h.text ∙ ap (λ (l : List ℕ). l ++ responses h.done h.replies) g.text ∙ append_assoc old (responses g.done g.replies) (responses h.done h.replies)
      ∙ ap (λ (l : List ℕ). old ++ l) (sym (responses_append answers g.done g.replies h.done h.replies a b g.run));
}

going_exchange : {C : Type 0} (answers : C → Request → Answer → C → Type 0) (limit : ℕ) (bytes : List ℕ) (a b c : C) (old mid new : List ℕ) (n : ℕ) (rest : List ℕ) (way : End)
    → IsGoing answers limit bytes a b old mid n rest → IsExchange answers n rest b c mid new way → IsExchange answers limit bytes a c old new way
going_exchange answers limit bytes a b c old mid new n rest way g e = record {
  requests = g.done ++ e.requests;
  ending = e.ending;
  brings = record {
    done = g.done ++ e.brings.done;
    left = e.brings.left;
    rest = e.brings.rest;
    begins = begins_append limit bytes g.done n rest e.brings.done e.brings.left e.brings.rest g.begins e.brings.begins;
    last = e.brings.last;
    finishes = e.brings.finishes;
    all = ap (λ (l : List Request). g.done ++ l) e.brings.all ∙ sym (append_requests g.done e.brings.done e.brings.last);
  };
  replies = g.replies ++ e.replies;
  run = run_append answers g.done g.replies e.requests e.replies a b c g.run e.run;
  text = e.text ∙ ap (λ (l : List ℕ). l ++ written e.requests e.replies e.ending) g.text
      ∙ append_assoc old (responses g.done g.replies) (written e.requests e.replies e.ending)
      ∙ ap (λ (l : List ℕ). old ++ l) (sym (written_append answers g.done g.replies e.requests e.replies e.ending a b g.run));
  way_is = e.way_is;
}

going_front : {C : Type 0} (answers : C → Request → Answer → C → Type 0) (limit : ℕ) (bytes : List ℕ) (a b c : C) (old mid new : List ℕ) (n : ℕ) (rest : List ℕ)
    → IsGoing answers limit bytes a b old mid n rest → IsFront answers n rest b c mid new → IsFront answers limit bytes a c old new
going_front answers limit bytes a b c old mid new n rest g f = record {
  done = g.done ++ f.done;
  left = f.left;
  rest = f.rest;
  begins = begins_append limit bytes g.done n rest f.done f.left f.rest g.begins f.begins;
  replies = g.replies ++ f.replies;
  mid = f.mid;
  run = run_append answers g.done g.replies f.done f.replies a b f.mid g.run f.run;
  out = f.out;
  stops = f.stops;
  text = f.text ∙ ap (λ (l : List ℕ). l ++ (responses f.done f.replies ++ f.out)) g.text
      ∙ append_assoc old (responses g.done g.replies) (responses f.done f.replies ++ f.out)
      ∙ ap (λ (l : List ℕ). old ++ l) (sym (append_assoc (responses g.done g.replies) (responses f.done f.replies) f.out)
      ∙ ap (λ (l : List ℕ). l ++ f.out) (sym (responses_append answers g.done g.replies f.done f.replies a b g.run)));
}

-- a session that went on, and what the rest of it left
pub going_serves : {C : Type 0} (answers : C → Request → Answer → C → Type 0) (limit : ℕ) (bytes : List ℕ) (a b c : C) (old mid new : List ℕ) (n : ℕ) (rest : List ℕ) (way : End)
    → IsGoing answers limit bytes a b old mid n rest → Serves answers n rest b c mid new way → Serves answers limit bytes a c old new way
going_serves answers limit bytes a b c old mid new n rest ConnectionFault g s = going_front answers limit bytes a b c old mid new n rest g s
going_serves answers limit bytes a b c old mid new n rest NoMemory g s = going_front answers limit bytes a b c old mid new n rest g s
going_serves answers limit bytes a b c old mid new n rest Closed g s = going_exchange answers limit bytes a b c old mid new n rest Closed g s
going_serves answers limit bytes a b c old mid new n rest Cut g s = going_exchange answers limit bytes a b c old mid new n rest Cut g s
going_serves answers limit bytes a b c old mid new n rest Rejected g s = going_exchange answers limit bytes a b c old mid new n rest Rejected g s
going_serves answers limit bytes a b c old mid new n rest Limit g s = going_exchange answers limit bytes a b c old mid new n rest Limit g s

pub front_serves : {C : Type 0} (answers : C → Request → Answer → C → Type 0) (limit : ℕ) (bytes : List ℕ) (a b : C) (old new : List ℕ) (stop : Stop) (way : End) → way ≡ end_of stop → IsFront answers limit bytes a b old new → Serves answers limit bytes a b old new way
front_serves answers limit bytes a b old new Fault way is front = subst (λ (w : End). Serves answers limit bytes a b old new w) (sym is) front
front_serves answers limit bytes a b old new NoRoom way is front = subst (λ (w : End). Serves answers limit bytes a b old new w) (sym is) front

-- what is left of the bytes when the front of those held is dropped
pub rest_is : (held left held' left' : List ℕ) (n : ℕ) → n ≤ length held → held' ≡ drop n held → left' ≡ left → held' ++ left' ≡ drop n (held ++ left)
rest_is held left held' left' n le is same = ap (λ (l : List ℕ). l ++ left') is ∙ ap (λ (l : List ℕ). drop n held ++ l) same ∙ sym (drop-append-le n held left le)

-- the input ended: whether a request has begun is told by the bytes held
pub more_serves : {C : Type 0} (answers : C → Request → Answer → C → Type 0) (n : ℕ) (bytes held left : List ℕ) (a b : C) (old new : List ℕ) (begun : Bool) → Tells bytes more → held ++ left ≡ bytes → left ≡ [] → begun ≡ has_begun held → b ≡ a → new ≡ old
    → Serves answers (suc n) bytes a b old new (if begun then Cut else Closed)
more_serves answers n bytes held left a b old new begun is all_is is_over begun_is same text =
    let all : held ≡ bytes = sym (append_nil held) ∙ ap (λ (x : List ℕ). held ++ x) (sym is_over) ∙ all_is in
    let found : begun ≡ has_begun bytes = begun_is ∙ ap has_begun all in
    let e : IsExchange answers (suc n) bytes a b old new (if has_begun bytes then Cut else Closed) = step_more answers n bytes a b old new is same text in
    by_case begun (subst (λ (x : Bool). IsExchange answers (suc n) bytes a b old new (if x then Cut else Closed)) (sym found) e)
  where
    by_case : (x : Bool) → IsExchange answers (suc n) bytes a b old new (if x then Cut else Closed) → Serves answers (suc n) bytes a b old new (if x then Cut else Closed)
    by_case true e = e
    by_case false e = e

one_less : (n : ℕ) → 0 < n → suc (n - 1) ≡ n
one_less n lt = omega arith

-- one request more, and the session goes on
pub going_next : {C : Type 0} (answers : C → Request → Answer → C → Type 0) (limit : ℕ) (bytes : List ℕ) (a b c : C) (old mid new : List ℕ) (room : ℕ) (rest rest' : List ℕ)
    → IsGoing answers limit bytes a b old mid room rest → 0 < room → ((n : ℕ) → IsGoing answers (suc n) rest b c mid new n rest') → IsGoing answers limit bytes a c old new (room - 1) rest'
going_next answers limit bytes a b c old mid new room rest rest' g lt step =
    going_going answers limit bytes a b c old mid new room rest (room - 1) rest' g
    (subst (λ (n : ℕ). IsGoing answers n rest b c mid new (room - 1) rest') (one_less room lt) (step (room - 1)))

-- no request yet, and none of the bytes held
pub going_start : {C : Type 0} (answers : C → Request → Answer → C → Type 0) (limit : ℕ) (bytes : List ℕ) (a : C) (old held : List ℕ) → held ≡ [] → IsGoing answers limit bytes a a old old limit (held ++ bytes)
going_start answers limit bytes a old held is = subst (λ (l : List ℕ). IsGoing answers limit bytes a a old old limit (l ++ bytes)) (sym is) (going_none answers limit bytes a a old old refl refl)

-- the same of a request that is the same
pub answered_as : {C : Type 0} (answers : C → Request → Answer → C → Type 0) (r s : Request) (before after : C) (old new : List ℕ) → r ≡ s → IsAnswered answers r before after old new → IsAnswered answers s before after old new
answered_as answers r s before after old new same answered = subst (λ (x : Request). IsAnswered answers x before after old new) same answered

pub stopped_as : {C : Type 0} (answers : C → Request → Answer → C → Type 0) (r s : Request) (before after : C) (old new : List ℕ) → r ≡ s
    → IsUntouched before after old new ⊎ IsHalfAnswered answers r before after old new → IsUntouched before after old new ⊎ IsHalfAnswered answers s before after old new
stopped_as answers r s before after old new same stopped = subst (λ (x : Request). IsUntouched before after old new ⊎ IsHalfAnswered answers x before after old new) same stopped

-- the same of bytes and of a text that are the same
pub one_as : {C : Type 0} (answers : C → Request → Answer → C → Type 0) (n : ℕ) (bytes bytes' : List ℕ) (before after : C) (old old' new : List ℕ) (rest : List ℕ) (r : Option End) → bytes ≡ bytes' → old ≡ old'
    → MatchOption r (IsGoing answers (suc n) bytes before after old new n rest) (Serves answers (suc n) bytes before after old new)
    → MatchOption r (IsGoing answers (suc n) bytes' before after old' new n rest) (Serves answers (suc n) bytes' before after old' new)
one_as answers n bytes bytes' before after old old' new rest r same text one =
    subst (λ (t : List ℕ). MatchOption r (IsGoing answers (suc n) bytes' before after t new n rest) (Serves answers (suc n) bytes' before after t new)) text
    (subst (λ (l : List ℕ). MatchOption r (IsGoing answers (suc n) l before after old new n rest) (Serves answers (suc n) l before after old new)) same one)

pub whole_as : (bytes bytes' : List ℕ) (head : Head) (end : ℕ) → bytes' ≡ bytes → Tells bytes' (whole (request_at bytes' end head)) → Tells bytes (whole (request_at bytes end head))
whole_as bytes bytes' head end same is = subst (λ (l : List ℕ). Tells l (whole (request_at l end head))) same is

begins_shorter : (n : ℕ) (bytes : List ℕ) (rs : List Request) (m : ℕ) (rest : List ℕ) → Begins n bytes rs m rest → length rest ≤ length bytes
begins_shorter n bytes [] m rest (none _ _) = omega arith
begins_shorter (suc n) bytes _ m rest (goes _ _ s rs _ _ tells closes begins) = omega (arith, begins_shorter n (drop s.size bytes) rs m rest begins, length-drop {A = ℕ} s.size bytes)

near_going : {C : Type 0} (answers : C → Request → Answer → C → Type 0) (limit : ℕ) (bytes : List ℕ) (a b c : C) (old mid new : List ℕ) (n : ℕ) (rest : List ℕ) (way : End) (g : IsGoing answers limit bytes a b old mid n rest) (s : Serves answers n rest b c mid new way) (most : ℕ) → length rest ≤ most
    → length (rest_of answers limit bytes a c old new way (going_serves answers limit bytes a b c old mid new n rest way g s)) ≤ most
unfolding going_serves going_front going_exchange
near_going answers limit bytes a b c old mid new n rest ConnectionFault g s most le = omega (arith, le, begins_shorter n rest s.done s.left s.rest s.begins)
near_going answers limit bytes a b c old mid new n rest NoMemory g s most le = omega (arith, le, begins_shorter n rest s.done s.left s.rest s.begins)
near_going answers limit bytes a b c old mid new n rest Closed g s most le = omega (arith, le, begins_shorter n rest s.brings.done s.brings.left s.brings.rest s.brings.begins)
near_going answers limit bytes a b c old mid new n rest Cut g s most le = omega (arith, le, begins_shorter n rest s.brings.done s.brings.left s.brings.rest s.brings.begins)
near_going answers limit bytes a b c old mid new n rest Rejected g s most le = omega (arith, le, begins_shorter n rest s.brings.done s.brings.left s.brings.rest s.brings.begins)
near_going answers limit bytes a b c old mid new n rest Limit g s most le = omega (arith, le, begins_shorter n rest s.brings.done s.brings.left s.brings.rest s.brings.begins)

-- one request more, and the session ends: what was taken from the link
pub near_next : {C : Type 0} (answers : C → Request → Answer → C → Type 0) (limit : ℕ) (bytes unread : List ℕ) (a b c : C) (old mid new : List ℕ) (room : ℕ) (rest : List ℕ) (way : End)
    → IsGoing answers limit bytes a b old mid room rest → 0 < room → ((n : ℕ) → Serves answers (suc n) rest b c mid new way) → length rest ≤ length unread + 86015 → ServesNear answers limit bytes unread a c old new way
near_next answers limit bytes unread a b c old mid new room rest way g lt step le =
    let s : Serves answers room rest b c mid new way = subst (λ (n : ℕ). Serves answers n rest b c mid new way) (one_less room lt) (step (room - 1)) in
    (going_serves answers limit bytes a b c old mid new room rest way g s, near_going answers limit bytes a b c old mid new room rest way g s (length unread + 86015) le)

-- as many as may be were answered
pub near_limit : {C : Type 0} (answers : C → Request → Answer → C → Type 0) (limit : ℕ) (bytes held left : List ℕ) (a b : C) (old mid : List ℕ) (room : ℕ)
    → IsGoing answers limit bytes a b old mid room (held ++ left) → room ≤ 0 → length held ≤ 86015 → ServesNear answers limit bytes left a b old mid Limit
near_limit answers limit bytes held left a b old mid zero g few le =
    let s : IsExchange answers 0 (held ++ left) b b mid mid Limit = step_limit answers (held ++ left) b b mid mid refl refl in
    (going_serves answers limit bytes a b b old mid mid 0 (held ++ left) Limit g s, near_going answers limit bytes a b b old mid mid 0 (held ++ left) Limit g s (length left + 86015) (omega (arith, le, length-append held left)))
near_limit answers limit bytes held left a b old mid (suc room) g few le = absurd (omega arith)

-- no more are held than were taken
pub held_next : {C : Type 0} (answers : C → Request → Answer → C → Type 0) (bytes held left : List ℕ) (b c : C) (mid new : List ℕ) → IsGoing answers 1 bytes b c mid new 0 (held ++ left) → length bytes ≤ length left + 86015 → length held ≤ 86015
held_next answers bytes held left b c mid new g le = omega (arith, le, length-append held left, begins_shorter 1 bytes g.done 0 (held ++ left) g.begins)

-- there was no memory to begin
pub near_none : {C : Type 0} (answers : C → Request → Answer → C → Type 0) (limit : ℕ) (bytes unread : List ℕ) (before after : C) (old new : List ℕ) → after ≡ before → new ≡ old → length bytes ≤ length unread + 86015 → ServesNear answers limit bytes unread before after old new NoMemory
unfolding front_none front_by
near_none answers limit bytes unread before after old new same text le = (front_none answers limit bytes before after old new same text, le)
