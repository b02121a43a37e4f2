-- The connections that one worker served, one after the other, by the turns of its pass.
use Rattle.std.specs.Prelude.{◌≡◌, ◌≢◌, ◌+◌, ℕ, Bool, true, false, List, [], ◌∷◌, ◌++◌, length, map, IsTrue, Option}
use Rattle.std.specs.List.{list_any}
use Rattle.io_traits.specs.Faults.{Rose}
use Rattle.log_machine.specs.Scheme.{Semantics}
use Rattle.log_machine.specs.declared.reply.LogReply.{LogReply}
use Rattle.log_lock.specs.Passes.{Known}
use Rattle.log_machine.specs.declared.names.Filed.{Filed}
use Rattle.log_machine.specs.declared.names.RowName.{RowName}
use Rattle.web_session.specs.Asks.{Scheme}
use Rattle.web_session.specs.Exchange.{Serves}
use Rattle.web_session.specs.declared.end.End.{End}
use Rattle.web_session.specs.declared.end.End.TheVariants.{ConnectionFault, NoMemory}
use Rattle.web_workers.specs.Clerks.{HandleAnswers, HandleReaches}
use Rattle.web_session.specs.Ports.{Closed, AcceptorState}

-- One connection: the bytes that it brought, what was written on it, its count of faults, how its session ended, and what the
-- pass knew then.
pub record Session (Entry : Type 0) : Type 0 where
  pub bytes : List ℕ
  pub text : List ℕ
  pub faults : ℕ
  pub end : End
  pub after : Known (Filed Entry)

-- how it stands in the record of its port
abbrev pub closed_as : {Entry : Type 0} → Session Entry → Closed
closed_as s = record { text = s.text; faults = s.faults }

-- its session ended for want of memory
abbrev pub is_starved_end : End → Bool
is_starved_end NoMemory = true
is_starved_end _ = false

abbrev pub was_starved : {Entry : Type 0} → Session Entry → Bool
was_starved s = is_starved_end s.end

-- What was written on a connection is the exchange of its bytes for the turns of the pass, under one name. Of a connection
-- that isn't honest only the turns are known. The connection's count of faults rose where the session ended with `ConnectionFault`,
-- and stood still at every other end.
pub record IsSession {Entry Operation Response : Type 0} (semantics : Semantics Entry Operation Response) (own : Operation → Option Entry) (scheme : Scheme Operation (LogReply Response)) (honest : Bool) (by : RowName) (before : Known (Filed Entry)) (s : Session Entry) : Type 0 where
  pub exchange : IsTrue honest
      → Serves (HandleAnswers semantics own scheme) 10000 s.bytes (record { by = by; handle = before }) (record { by = by; handle = s.after }) [] s.text s.end
  pub reached : HandleReaches semantics own scheme (record { by = by; handle = before }) (record { by = by; handle = s.after })
  pub fault : s.end ≡ ConnectionFault → Rose 0 s.faults
  pub still : s.end ≢ ConnectionFault → s.faults ≡ 0

-- the connections of a port, numbered from `number` on, each served by the pass as the one before left it
abbrev pub AreSessions : {Entry Operation Response : Type 0} → Semantics Entry Operation Response → (Operation → Option Entry) → Scheme Operation (LogReply Response) → Bool → ℕ → ℕ → Known (Filed Entry) → List (Session Entry) → Known (Filed Entry) → Type 0
AreSessions semantics own scheme honest port number before [] after = after ≡ before
AreSessions semantics own scheme honest port number before (s ∷ sessions) after =
    IsSession semantics own scheme honest (record { desk = port; row = number }) before s × AreSessions semantics own scheme honest port (number + 1) s.after sessions after

-- What a port's worker did: the connections that came, in order, each of which was taken back.
pub record Served {Entry Operation Response : Type 0} (semantics : Semantics Entry Operation Response) (own : Operation → Option Entry) (scheme : Scheme Operation (LogReply Response)) (port : ℕ) (before after : Known (Filed Entry)) (old new : AcceptorState) (served : ℕ) (starved : Bool) : Type 0 where
  pub sessions : List (Session Entry)
  pub each : AreSessions semantics own scheme old.honest port 1 before sessions after
  pub count : served ≡ length sessions
  pub starved_is : starved ≡ list_any was_starved sessions
  pub honest : new.honest ≡ old.honest
  pub coming : IsTrue old.honest → old.coming ≡ map (λ (s : Session Entry). s.bytes) sessions ++ new.coming
  pub closed : IsTrue old.honest → new.closed ≡ old.closed ++ map closed_as sessions

-- the next connection was served, and taken back
pub record ServesNext {Entry Operation Response : Type 0} (semantics : Semantics Entry Operation Response) (own : Operation → Option Entry) (scheme : Scheme Operation (LogReply Response)) (by : RowName) (before after : Known (Filed Entry)) (old new : AcceptorState) (end : End) : Type 0 where
  pub session : Session Entry
  pub is : IsSession semantics own scheme old.honest by before session
  pub after_is : session.after ≡ after
  pub end_is : session.end ≡ end
  pub honest : new.honest ≡ old.honest
  pub coming : IsTrue old.honest → old.coming ≡ session.bytes ∷ new.coming
  pub closed : IsTrue old.honest → new.closed ≡ old.closed ++ closed_as session ∷ []

-- the port failed: no connection came
pub record FailsNext {Entry : Type 0} (before after : Known (Filed Entry)) (old new : AcceptorState) : Type 0 where
  pub same : after ≡ before
  pub honest : new.honest ≡ old.honest
  pub tells : IsTrue old.honest → new ≡ old
