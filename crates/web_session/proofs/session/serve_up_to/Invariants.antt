use Rattle.std.proofs.Common.{◌≡◌, ◌≤◌, ◌++◌, length}
use Rattle.web_session.specs.Asks.{Answers, IsAsked, Reaches}
use Rattle.web_session.specs.ConnectionState.{IsHonest}
use Rattle.web_session.specs.Exchange.{IsGoing}
use Rattle.web_session.proofs.session.serve_up_to.Given as goal

abbrev pub invariant-loop-room : goal.invariant-loop-room
invariant-loop-room g l = record {
  honest : (g.L.Connection.tells l.link).honest ≡ (g.L.Connection.tells l.initial.link).honest;
  going : IsHonest (g.L.Connection.tells l.initial.link)
      → IsGoing (Answers g.F.Api.scheme g.C.Handler.asked g.C.Handler.faults) l.limit (g.L.Connection.tells l.initial.link).left l.initial.clerk l.clerk (g.L.Connection.tells l.initial.link).text (g.L.Connection.tells l.link).text l.room (l.held.items ++ (g.L.Connection.tells l.link).left);
  room : IsHonest (g.L.Connection.tells l.initial.link) → length l.held.items ≤ 86015;
  reached : Reaches (IsAsked g.C.Handler.asked g.C.Handler.faults g.F.Api.scheme.status) l.initial.clerk l.clerk;
  later : g.L.Connection.faults l.initial.link ≤ g.L.Connection.faults l.link;
  still : g.L.Connection.faults l.link ≡ g.L.Connection.faults l.initial.link;
}

abbrev pub decreases-loop-room : goal.decreases-loop-room
decreases-loop-room g l = l.room
