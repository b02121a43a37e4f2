-- What connections come from, and what becomes of them.
use Rattle.std.specs.Prelude.{◌≡◌, ◌+◌, ℕ, Bool, false, List, [], ◌∷◌, ◌++◌, IsTrue}
use Rattle.web_session.specs.ConnectionState.{ConnectionState, IsHonest}

-- a connection that was taken back: what was written on it, and its count of faults
pub record Closed : Type 0 where
  pub text : List ℕ
  pub faults : ℕ

-- what an honest port tells of itself
pub record AcceptorState : Type 0 where
  -- whether the rest is so; what a port that isn't honest tells means nothing
  pub honest : Bool
  -- the bytes that each connection to come will bring, the next one first
  pub coming : List (List ℕ)
  -- how many connections are out
  pub out : ℕ
  -- those that were taken back, the oldest first
  pub closed : List Closed

abbrev pub IsHonestAcceptor : AcceptorState → Type 0
IsHonestAcceptor t = IsTrue t.honest

-- the next connection was handed out: it is honest, and nothing was written on it
pub record HandsOut (old new : AcceptorState) (link : ConnectionState) : Type 0 where
  pub honest : IsHonest link
  pub empty : link.text ≡ []
  pub bytes : old.coming ≡ link.left ∷ new.coming
  pub out : new.out ≡ old.out + 1
  pub closed : new.closed ≡ old.closed

-- a connection was taken back
pub record TakesBack (old new : AcceptorState) (link : Closed) : Type 0 where
  pub coming : new.coming ≡ old.coming
  pub out : old.out ≡ new.out + 1
  pub closed : new.closed ≡ old.closed ++ link ∷ []

-- a port that tells nothing
abbrev pub silent_port : AcceptorState
silent_port = record { honest = false; coming = []; out = 0; closed = [] }
