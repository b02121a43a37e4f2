-- Rows that were taken, told by what is equal.
use Rattle.std.proofs.Common.{◌≡◌, List, Result, sym, subst}
use Rattle.io_traits.specs.declared.disk.Disk.{Ghosts}
use Rattle.log_machine.specs.Scheme.{Scheme, Semantics}
use Rattle.log_session.specs.Edges.{Output}
use Rattle.log_machine.specs.Texts.{Texts}
use Rattle.log_session.specs.Sessions.{Takes}
use Rattle.log_session.specs.declared.stop.FileStop.{FileStop}

module _ {D Entry Operation Response Error : Type 0} {disk : Ghosts D} {scheme : Scheme Entry} {semantics : Semantics Entry Operation Response} (texts : Texts Operation Response Error) {past now : List Entry} {at : D} {output : Output} {ended : Result (Unit {0}) FileStop} where
  -- the disk was given back, and what was left is known by other words
  pub retold : (left same : List texts.Meaning) → left ≡ same → (new given : D) → given ≡ new
      → Takes disk scheme semantics texts past now at new output left ended → Takes disk scheme semantics texts past now at given output same ended
  retold left same is new given back takes =
      subst (λ (d : D). Takes disk scheme semantics texts past now at d output same ended) (sym back)
      (subst (λ (l : List texts.Meaning). Takes disk scheme semantics texts past now at new output l ended) is takes)
