use Rattle.std.proofs.Common.{◌≡◌, ◌≤◌, ◌-◌, ◌++◌, length, take}
use Rattle.web_session.specs.ConnectionState.{IsHonest}
use Rattle.web_session.specs.Ends.{IsScanned}
use Rattle.web_session.proofs.pieces.find_head.Given as goal

abbrev pub invariant-loop-scan : goal.invariant-loop-scan
invariant-loop-scan g l = record {
  honest : (g.L.Connection.tells l.link).honest ≡ (g.L.Connection.tells l.initial.link).honest;
  text : IsHonest (g.L.Connection.tells l.initial.link) → (g.L.Connection.tells l.link).text ≡ (g.L.Connection.tells l.initial.link).text;
  bytes : IsHonest (g.L.Connection.tells l.initial.link) → l.held.items ++ (g.L.Connection.tells l.link).left ≡ l.initial.held.items ++ (g.L.Connection.tells l.initial.link).left;
  room : IsHonest (g.L.Connection.tells l.initial.link) → length l.initial.held.items ≤ 86015 → length l.held.items ≤ 86015;
  later : g.L.Connection.faults l.initial.link ≤ g.L.Connection.faults l.link;
  still : g.L.Connection.faults l.link ≡ g.L.Connection.faults l.initial.link;
  scanned : IsScanned l.scan.state l.scan.count (take 16384 l.held.items);
}

abbrev pub decreases-loop-scan : goal.decreases-loop-scan
decreases-loop-scan g l = 16384 - length l.held.items
