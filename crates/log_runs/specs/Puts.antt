-- What is written to a sink, whole or cut short by a fault.
use Rattle.std.specs.Prelude.{◌≡◌, ◌≤◌, ◌++◌, ℕ, IsTrue, List, Result, Ok, Err}
use Rattle.io_traits.specs.Faults.{Rose}
use Rattle.io_traits.specs.Whole.{IsCutShort}
use Rattle.io_traits.specs.declared.sink.Sink.{Ghosts}

-- the text was written
pub record HasPut {K : Type 0} (sink : Ghosts K) (text : List ℕ) (old new : K) : Type 0 where
  pub honest : sink.honest new ≡ sink.honest old
  pub written : IsTrue (sink.honest old) → sink.text new ≡ sink.text old ++ text
  pub unmoved : sink.faults new ≡ sink.faults old

-- a write failed, so that a front of the text stands that isn't all of it
pub record HasCut {K : Type 0} (sink : Ghosts K) (text : List ℕ) (old new : K) : Type 0 where
  pub honest : sink.honest new ≡ sink.honest old
  pub cut : IsTrue (sink.honest old) → IsCutShort text (sink.text old) (sink.text new)
  pub later : sink.faults old ≤ sink.faults new
  pub rose : Rose (sink.faults old) (sink.faults new)

-- one of the two, by how the writing ended
abbrev pub Puts : {K E : Type 0} → Ghosts K → List ℕ → Result Unit E → K → K → Type 0
Puts sink text (Ok done) old new = HasPut sink text old new
Puts sink text (Err fault) old new = HasCut sink text old new
