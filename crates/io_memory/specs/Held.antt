-- What contracts see of a port in memory.
use Rattle.std.specs.Prelude.{◌≡◌, ℕ, true, List, [], map}
use Rattle.web_session.specs.Ports.{Closed, AcceptorState}
use Rattle.io_memory.specs.Wires.{Wire, wire_faults}

-- the connections to come, the next one first, those that were taken back, the oldest first, and how many are out; the
-- numbers of the calls of `next` that fail, and how many calls and faults there were
pub record Held : Type 0 where
  pub waiting : List Wire
  pub back : List Wire
  pub out : ℕ
  pub failing : List ℕ
  pub calls : ℕ
  pub faults : ℕ

-- nothing was written on the connection, and no call on it has failed
pub record IsUnused (w : Wire) : Type 0 where
  pub empty : w.tape.text ≡ []
  pub no_faults : wire_faults w ≡ 0

abbrev pub closed_of : Wire → Closed
closed_of w = record { text = w.tape.text; faults = wire_faults w }

abbrev pub held_tells : Held → AcceptorState
held_tells p = record { honest = true; coming = map (λ (w : Wire). w.feed.left) p.waiting; out = p.out; closed = map closed_of p.back }
