use Rattle.std.proofs.Common.{◌≡◌, ◌≤◌, length}
use Rattle.web_session.specs.ConnectionState.{IsHonest}
use Rattle.web_session.proofs.Sent.{Sent}
use Rattle.web_session.proofs.link.write_all.Given as goal

abbrev pub invariant-loop-rest : goal.invariant-loop-rest
invariant-loop-rest g l = record {
  honest : (g.L.Connection.tells l.link).honest ≡ (g.L.Connection.tells l.initial.link).honest;
  left : IsHonest (g.L.Connection.tells l.initial.link) → (g.L.Connection.tells l.link).left ≡ (g.L.Connection.tells l.initial.link).left;
  sent : IsHonest (g.L.Connection.tells l.initial.link) → Sent (g.L.Connection.tells l.initial.link).text (g.L.Connection.tells l.link).text l.bytes l.rest;
  later : g.L.Connection.faults l.initial.link ≤ g.L.Connection.faults l.link;
  still : g.L.Connection.faults l.link ≡ g.L.Connection.faults l.initial.link;
}

abbrev pub decreases-loop-rest : goal.decreases-loop-rest
decreases-loop-rest g l = length l.rest
