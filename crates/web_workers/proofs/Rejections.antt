-- No request of a connection is rejected by another status than 404 and 405.
use Rattle.std.proofs.Common.{◌≡◌, ◌≢◌, inl, inr, ℕ, zero, suc, ◌+◌, Bool, true, false, List, [], ◌∷◌, ◌++◌, subst, Option, Some, None, Result, Ok, Err, length, take, drop, refl, sym, ap, ◌∙◌}
use Rattle.std.specs.Prelude.{if◌then◌else◌, nat_le}
use Rattle.std.specs.List.{All}
use Rattle.std.specs.Str.{bytes_eq}
use Rattle.std.proofs.lemmas.List.Elements.{All-nil, All-cons, All-head, All-tail}
use Rattle.web_session.specs.Asks.{Request}
use Rattle.web_session.specs.Calls.{call_at, call_by, call_of, method_of}
use Rattle.web_session.specs.Exchange.{Told, bad, more, request_at, told_body, whole, Tells, unended, too_large, ended, Begins, none, goes, Ending, Finishes, full, over, rejected, closing, Brings}
use Rattle.web_session.specs.Heads.{Judges, head_with}
use Rattle.web_session.specs.Responses.{Answer}
use Rattle.web_session.specs.declared.call.ApiCall.{ApiCall}
use Rattle.web_session.specs.declared.end.End.{End}
use Rattle.web_session.specs.declared.end.End.TheVariants.{Closed, Cut, Rejected, Limit, ConnectionFault, NoMemory}
use Rattle.web_session.specs.declared.head.Head.{Head}
use Rattle.web_session.specs.declared.status.Status.{Status}
use Rattle.web_session.specs.declared.status.Status.TheVariants.{BadRequest, Created, HeadTooLarge, MethodNotAllowed, NoStorage, NotFound, Unavailable}
use Rattle.web_workers.specs.Closed.{IsPart, IsTextOf, IsWhole, StopsAt, silent, answering, rejecting}
use Rattle.web_workers.specs.Told.{IsAvailable}

both_all : (P : Request → Type 0) (xs ys : List Request) → All P xs → All P ys → All P (xs ++ ys)
both_all P [] ys one two = two
both_all P (x ∷ xs) ys one two = All-cons P x (xs ++ ys) (All-head P x xs one) (both_all P xs ys (All-tail P x xs one) two)

module _ (other : Status) (found : NotFound ≢ other) (allowed : MethodNotAllowed ≢ other) where
  -- the request's target isn't rejected by that status
  abbrev pub IsNot : Request → Type 0
  IsNot request = request.head.call ≢ Err other

  call_not : (method : List ℕ) (call : Option ApiCall) → call_by method call ≢ Err other
  call_not method None is = found (let same : NotFound ≡ other = cc in same)
  call_not method (Some call) is = go (bytes_eq method (method_of call)) is
    where
      go : (b : Bool) → (if b then Ok call else Err MethodNotAllowed) ≡ Err other → ⊥
      go true same = cc
      go false same = allowed (let is : MethodNotAllowed ≡ other = cc in is)

  head_not : (method target : List ℕ) (closes : Bool) (size : Result ℕ Status) (head : Head) → head_with method target closes size ≡ Ok head → head.call ≢ Err other
  head_not method target closes (Err status) head is bad_call = absurd (let no : ⊥ = cc in no)
  head_not method target closes (Ok n) head is bad_call =
      let same : record { call = call_of method target; length = n; closes = closes } ≡ head = cc in
      call_not method (call_at target) (ap (λ (h : Head). h.call) same ∙ bad_call)

  judged_not : (block : List ℕ) (said : Result Head Status) (head : Head) → Judges block said → said ≡ Ok head → head.call ≢ Err other
  judged_not block said head (inl (lines, is)) at = absurd (let bad_head : Err HeadTooLarge ≡ Ok head = sym is ∙ at in let no : ⊥ = cc in no)
  judged_not block said head (inr (lines, inl (h, of, is))) at = head_not h.method h.target _ _ head (sym is ∙ at)
  judged_not block said head (inr (lines, inr (void, is))) at = absurd (let bad_head : Err BadRequest ≡ Ok head = sym is ∙ at in let no : ⊥ = cc in no)

  abbrev IsFine : Told → Type 0
  IsFine more = Unit {0}
  IsFine (bad status) = Unit {0}
  IsFine (whole s) = IsNot s.request

  body_fine : (bytes : List ℕ) (k : ℕ) (said : Result Head Status) → Judges (take k bytes) said → IsFine (told_body bytes k said)
  body_fine bytes k (Err status) judges = tt
  body_fine bytes k (Ok head) judges = go (nat_le (k + head.length) (length bytes))
    where
      go : (b : Bool) → IsFine (if b then whole (request_at bytes k head) else more)
      go true = judged_not (take k bytes) (Ok head) head judges refl
      go false = tt

  tells_fine : (bytes : List ℕ) (t : Told) → Tells bytes t → IsFine t
  tells_fine bytes _ (unended void lt) = tt
  tells_fine bytes _ (too_large void le) = tt
  tells_fine bytes _ (ended k said is judges) = body_fine bytes k said judges

  begun_not : (n : ℕ) (bytes : List ℕ) (rs : List Request) (m : ℕ) (rest : List ℕ) → Begins n bytes rs m rest → All IsNot rs
  begun_not n bytes [] m rest (none _ _) = All-nil IsNot
  begun_not (suc n) bytes _ m rest (goes _ _ s rs _ _ tells still begins) = All-cons IsNot s.request rs (tells_fine bytes (whole s) tells) (begun_not n (drop s.size bytes) rs m rest begins)

  last_not : (n : ℕ) (bytes : List ℕ) (last : List Request) (e : Ending) → Finishes n bytes last e → All IsNot last
  last_not zero bytes _ _ (full _) = All-nil IsNot
  last_not (suc n) bytes _ _ (over _ _ tells) = All-nil IsNot
  last_not (suc n) bytes _ _ (rejected _ _ status tells) = All-nil IsNot
  last_not (suc n) bytes _ _ (closing _ _ s tells closes) = All-cons IsNot s.request [] (tells_fine bytes (whole s) tells) (All-nil IsNot)

  pub brought_not : (limit : ℕ) (bytes : List ℕ) (requests : List Request) (e : Ending) → Brings limit bytes requests e → All IsNot requests
  brought_not limit bytes requests e b = subst (All IsNot) (sym b.all) (both_all IsNot b.done b.last (begun_not limit bytes b.done b.left b.rest b.begins) (last_not b.left b.rest b.last e b.finishes))

  stops_not : (rest out : List ℕ) (last : List Request) (reply : List Answer) (n : ℕ) → StopsAt rest out last reply n → All IsNot last
  stops_not rest out _ _ n (silent _ empty) = All-nil IsNot
  stops_not rest out _ _ (suc n) (answering _ s answer tells front) = All-cons IsNot s.request [] (tells_fine rest (whole s) tells) (All-nil IsNot)
  stops_not rest out _ _ (suc n) (rejecting _ status tells front) = All-nil IsNot

  part_not : (bytes text : List ℕ) (done : List Request) (answers : List Answer) → IsPart bytes text done answers → All IsNot done
  part_not bytes text done answers p = subst (All IsNot) (sym p.done_is) (both_all IsNot p.first p.last (begun_not 10000 bytes p.first p.left p.rest p.begins) (stops_not p.rest p.out p.last p.reply p.left p.stops))

  whole_not : (bytes text : List ℕ) (done : List Request) (answers : List Answer) (way : End) → IsWhole bytes text done answers way → All IsNot done
  whole_not bytes text done answers way w = brought_not 10000 bytes done w.ending w.brings

  -- of no request that was answered
  pub done_not : (bytes text : List ℕ) (done : List Request) (answers : List Answer) (end : End) → IsTextOf bytes text done answers end → All IsNot done
  done_not bytes text done answers ConnectionFault t = part_not bytes text done answers t
  done_not bytes text done answers NoMemory t = part_not bytes text done answers t
  done_not bytes text done answers Closed t = whole_not bytes text done answers Closed t
  done_not bytes text done answers Cut t = whole_not bytes text done answers Cut t
  done_not bytes text done answers Rejected t = whole_not bytes text done answers Rejected t
  done_not bytes text done answers Limit t = whole_not bytes text done answers Limit t

pub available : (limit : ℕ) (bytes : List ℕ) (requests : List Request) (e : Ending) → Brings limit bytes requests e → All IsAvailable requests
available limit bytes requests e b k d lt = (
  brought_not Unavailable (λ e. let no : ⊥ = cc in no) (λ e. let no : ⊥ = cc in no) limit bytes requests e b k d lt,
  brought_not NoStorage (λ e. let no : ⊥ = cc in no) (λ e. let no : ⊥ = cc in no) limit bytes requests e b k d lt,
)

pub done_available : (bytes text : List ℕ) (done : List Request) (answers : List Answer) (end : End) → IsTextOf bytes text done answers end → All IsAvailable done
done_available bytes text done answers end t k d lt = (
  done_not Unavailable (λ e. let no : ⊥ = cc in no) (λ e. let no : ⊥ = cc in no) bytes text done answers end t k d lt,
  done_not NoStorage (λ e. let no : ⊥ = cc in no) (λ e. let no : ⊥ = cc in no) bytes text done answers end t k d lt,
)

-- no request's target is rejected by 201
abbrev pub IsUncreated : Request → Type 0
IsUncreated request = request.head.call ≢ Err Created

pub done_uncreated : (bytes text : List ℕ) (done : List Request) (answers : List Answer) (end : End) → IsTextOf bytes text done answers end → All IsUncreated done
done_uncreated = done_not Created (λ e. let no : ⊥ = cc in no) (λ e. let no : ⊥ = cc in no)
