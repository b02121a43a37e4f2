use Rattle.std.proofs.Common.{◌≡◌, ◌≤◌, ◌-◌, ◌++◌, length}
use Rattle.web_session.specs.ConnectionState.{IsHonest, IsPrefix}
use Rattle.web_session.proofs.pieces.await_bytes.Given as goal

abbrev pub invariant-loop-link : goal.invariant-loop-link
invariant-loop-link g l = record {
  honest : (g.L.Connection.tells l.link).honest ≡ (g.L.Connection.tells l.initial.link).honest;
  text : IsHonest (g.L.Connection.tells l.initial.link) → (g.L.Connection.tells l.link).text ≡ (g.L.Connection.tells l.initial.link).text;
  bytes : IsHonest (g.L.Connection.tells l.initial.link) → l.held.items ++ (g.L.Connection.tells l.link).left ≡ l.initial.held.items ++ (g.L.Connection.tells l.initial.link).left;
  room : IsHonest (g.L.Connection.tells l.initial.link) → length l.initial.held.items ≤ 86015 → l.count ≤ 81920 → length l.held.items ≤ 86015;
  later : g.L.Connection.faults l.initial.link ≤ g.L.Connection.faults l.link;
  still : g.L.Connection.faults l.link ≡ g.L.Connection.faults l.initial.link;
  grown : IsPrefix l.initial.held.items l.held.items;
}

abbrev pub decreases-loop-link : goal.decreases-loop-link
decreases-loop-link g l = l.count - length l.held.items
