-- What the connections of a port were told, of the list at the end.
use Rattle.std.specs.Prelude.{◌≡◌, ◌⊎◌, ◌+◌, ℕ, suc, List, [], ◌∷◌, ◌++◌, Contains, Option}
use Rattle.log_machine.specs.Scheme.{Semantics}
use Rattle.log_machine.specs.declared.reply.LogReply.{LogReply}
use Rattle.log_lock.specs.Passes.{Known}
use Rattle.log_machine.specs.declared.names.Filed.{Filed}
use Rattle.log_machine.specs.declared.names.RowName.{RowName}
use Rattle.web_session.specs.Asks.{Scheme, Request}
use Rattle.web_session.specs.Exchange.{Begins, Brings, Ending, Sized, Tells, bad, rejection_of, response_to, responses, whole, written}
use Rattle.web_session.specs.Responses.{Answer}
use Rattle.web_session.specs.ConnectionState.{IsPrefix}
use Rattle.web_session.specs.declared.end.End.{End}
use Rattle.web_session.specs.declared.end.End.TheVariants.{Closed, Cut, Rejected, Limit, ConnectionFault, NoMemory}
use Rattle.web_session.specs.declared.status.Status.{Status}
use Rattle.web_workers.specs.Sessions.{Session}
use Rattle.web_workers.specs.Told.{AreAnswersTo, IsOwnOf, count_asks, count_no_storage, count_unavailable}

-- the bytes bring just these requests, and the text is all of their exchange with these answers
pub record IsWhole (bytes text : List ℕ) (done : List Request) (answers : List Answer) (way : End) : Type 0 where
  pub ending : Ending
  pub brings : Brings 10000 bytes done ending
  pub text_is : text ≡ written done answers ending
  pub way_is : way ≡ ending.way

-- What stands behind the responses to the requests that come first, where a session stopped: nothing; or one request more was
-- asked, and a front of its response; or a front of the rejection. Where none may be answered any more, nothing.
pub data StopsAt (rest out : List ℕ) : List Request → List Answer → ℕ → Type 0 where
  silent : (n : ℕ) → out ≡ [] → StopsAt rest out [] [] n
  answering : (n : ℕ) (s : Sized) (answer : Answer) → Tells rest (whole s) → IsPrefix out (response_to s.request answer) → StopsAt rest out (s.request ∷ []) (answer ∷ []) (suc n)
  rejecting : (n : ℕ) (status : Status) → Tells rest (bad status) → IsPrefix out (rejection_of status) → StopsAt rest out [] [] (suc n)

-- the bytes begin with just these requests, and the text is a front of their exchange with these answers
pub record IsPart (bytes text : List ℕ) (done : List Request) (answers : List Answer) : Type 0 where
  pub first : List Request
  pub left : ℕ
  pub rest : List ℕ
  pub begins : Begins 10000 bytes first left rest
  pub replies : List Answer
  pub last : List Request
  pub reply : List Answer
  pub out : List ℕ
  pub stops : StopsAt rest out last reply left
  pub done_is : done ≡ first ++ last
  pub answers_is : answers ≡ replies ++ reply
  pub text_is : text ≡ responses first replies ++ out

-- the text begins all that is to be written for these requests, whatever would be answered to the others
pub record IsBegunBy (text : List ℕ) (done : List Request) (answers : List Answer) (requests : List Request) (ending : Ending) : Type 0 where
  pub others : List Request
  pub cut : requests ≡ done ++ others
  pub front : (later : List Answer) → IsPrefix text (written requests (answers ++ later) ending)

-- by how the session ended
abbrev pub IsTextOf : List ℕ → List ℕ → List Request → List Answer → End → Type 0
IsTextOf bytes text done answers ConnectionFault = IsPart bytes text done answers
IsTextOf bytes text done answers NoMemory = IsPart bytes text done answers
IsTextOf bytes text done answers Closed = IsWhole bytes text done answers Closed
IsTextOf bytes text done answers Cut = IsWhole bytes text done answers Cut
IsTextOf bytes text done answers Rejected = IsWhole bytes text done answers Rejected
IsTextOf bytes text done answers Limit = IsWhole bytes text done answers Limit

module _ {Entry Operation Response : Type 0} (semantics : Semantics Entry Operation Response) (own : Operation → Option Entry) (scheme : Scheme Operation (LogReply Response)) where
  -- What was written on a connection is the exchange of its bytes, or a front of it, and each answer with a front is the
  -- answer on that many entries of the list; what it adds stands there.
  pub record IsToldOf (seen : List Entry) (mine : List (ℕ × Filed Entry)) (by : RowName) (s : Session Entry) : Type 0 where
    pub done : List Request
    pub answers : List Answer
    pub text : IsTextOf s.bytes s.text done answers s.end
    pub each : AreAnswersTo semantics own scheme by seen mine done answers

  module _ (port : ℕ) where
    -- so of each of these connections, numbered from `number` on
    abbrev pub AreToldOf : List Entry → List (ℕ × Filed Entry) → ℕ → List (Session Entry) → Type 0
    AreToldOf seen mine number [] = Unit {0}
    AreToldOf seen mine number (s ∷ sessions) = IsToldOf seen mine (record { desk = port; row = number }) s × AreToldOf seen mine (number + 1) sessions

    -- how many of the answers are 503
    abbrev pub times_unavailable : (seen : List Entry) (mine : List (ℕ × Filed Entry)) (number : ℕ) (sessions : List (Session Entry)) → AreToldOf seen mine number sessions → ℕ
    times_unavailable seen mine number [] told = 0
    times_unavailable seen mine number (s ∷ sessions) told = count_unavailable told.0.answers + times_unavailable seen mine (number + 1) sessions told.1

    -- how many are 507, and how many of the requests were asks
    abbrev pub times_no_storage : (seen : List Entry) (mine : List (ℕ × Filed Entry)) (number : ℕ) (sessions : List (Session Entry)) → AreToldOf seen mine number sessions → ℕ
    times_no_storage seen mine number [] told = 0
    times_no_storage seen mine number (s ∷ sessions) told = count_no_storage told.0.answers + times_no_storage seen mine (number + 1) sessions told.1

    abbrev pub times_asked : (seen : List Entry) (mine : List (ℕ × Filed Entry)) (number : ℕ) (sessions : List (Session Entry)) → AreToldOf seen mine number sessions → ℕ
    times_asked seen mine number [] told = 0
    times_asked seen mine number (s ∷ sessions) told = count_asks semantics own scheme (record { desk = port; row = number }) told.0.done + times_asked seen mine (number + 1) sessions told.1

    -- the entry is the own one of a request that one of these connections brought and that was answered, and its number names it
    abbrev pub IsBroughtBy : (seen : List Entry) (mine : List (ℕ × Filed Entry)) (number : ℕ) (sessions : List (Session Entry)) → AreToldOf seen mine number sessions → Filed Entry → Type 0
    IsBroughtBy seen mine number [] told filed = ⊥
    IsBroughtBy seen mine number (s ∷ sessions) told filed = IsOwnOf semantics own scheme (record { desk = port; row = number }) told.0.done filed ⊎ IsBroughtBy seen mine (number + 1) sessions told.1 filed

    -- What a port's connections were told, and what they made of what a pass knows. It was told of a fault for each 503, and of no other, and of want
    -- of memory for each 507. It took a turn for each ask.
    pub record HaveTold (seen : List Entry) (number : ℕ) (sessions : List (Session Entry)) (first last : Known (Filed Entry)) : Type 0 where
      pub told : AreToldOf seen last.mine number sessions
      pub mine : (entry : ℕ × Filed Entry) → Contains last.mine entry → Contains first.mine entry ⊎ IsBroughtBy seen last.mine number sessions told entry.1
      pub left : (entry : ℕ × Filed Entry) → Contains last.left entry → Contains first.left entry ⊎ IsBroughtBy seen last.mine number sessions told entry.1
      pub faults : last.faults ≡ first.faults + times_unavailable seen last.mine number sessions told
      pub wants : last.wants ≡ first.wants + times_no_storage seen last.mine number sessions told
      pub turns : last.turns ≡ first.turns + times_asked seen last.mine number sessions told
