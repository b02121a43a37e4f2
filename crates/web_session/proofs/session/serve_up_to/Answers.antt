use Rattle.std.proofs.Common.{◌≡◌, arith, ◌∙◌, ◌++◌, ap, refl, sym, ℕ, List, None, Some, length}
use Rattle.web_session.specs.Asks.{Answers, IsAsked}
use Rattle.web_session.specs.declared.end.End.TheVariants.{ConnectionFault}
use Rattle.web_session.proofs.Reached.{reach_none, reach_more}
use Rattle.web_session.proofs.Steps.{near_next, near_limit, held_next, going_next, going_start}
use Rattle.web_session.proofs.session.serve_up_to.Goals as goal

pub loop-room-init : goal.loop-room-init
loop-room-init g c = record {
  honest = refl;
  going = λ honest. going_start (Answers g.F.Api.scheme g.C.Handler.asked g.C.Handler.faults) c.args.limit (g.L.Connection.tells c.args.link.now).left c.args.clerk.now (g.L.Connection.tells c.args.link.now).text c.new-held.result.items c.new-held.ensures.items;
  room = λ _. (let none_held = c.new-held.ensures.items in omega (arith, ap (λ (l : List ℕ). length l) none_held));
  reached = reach_none (IsAsked g.C.Handler.asked g.C.Handler.faults g.F.Api.scheme.status) c.args.clerk.now;
  later = omega arith;
  still = refl;
}

pub returns-in-Some-clause-exchange : goal.returns-in-Some-clause-exchange
returns-in-Some-clause-exchange g c honest =
    near_next (Answers g.F.Api.scheme g.C.Handler.asked g.C.Handler.faults) _ _ _ _ c.loop-room.clerk c.serve_one.new.clerk _ (g.L.Connection.tells c.loop-room.link).text _ c.loop-room.room _ c.in-Some.end (c.loop-room.invariant.going honest) c.loop-room-test.true
    (c.in-Some.ensures.step (c.loop-room.invariant.honest ∙ honest))
    (c.serve_one.ensures.no_further (c.loop-room.invariant.honest ∙ honest) (c.loop-room.invariant.room honest))

pub loop-room-preserved : goal.loop-room-preserved
loop-room-preserved g c = record {
  honest = c.serve_one.ensures.honest ∙ c.loop-room.invariant.honest;
  going = λ honest. going_next (Answers g.F.Api.scheme g.C.Handler.asked g.C.Handler.faults) _ _ _ c.loop-room.clerk c.serve_one.new.clerk _ (g.L.Connection.tells c.loop-room.link).text _ c.loop-room.room _ _ (c.loop-room.invariant.going honest) c.loop-room-test.true
      (c.in_default.ensures.step (c.loop-room.invariant.honest ∙ honest));
  room = λ honest. held_next (Answers g.F.Api.scheme g.C.Handler.asked g.C.Handler.faults) (c.loop-room.held.items ++ (g.L.Connection.tells c.loop-room.link).left) c.serve_one.new.held.items (g.L.Connection.tells c.serve_one.new.link).left _ _ _ _
      (c.in_default.ensures.step (c.loop-room.invariant.honest ∙ honest) 0) (c.serve_one.ensures.no_further (c.loop-room.invariant.honest ∙ honest) (c.loop-room.invariant.room honest));
  reached = reach_more (IsAsked g.C.Handler.asked g.C.Handler.faults g.F.Api.scheme.status) _ _ _ c.loop-room.invariant.reached c.serve_one.ensures.reached;
  later = (let a = c.serve_one.ensures.later in let b = c.loop-room.invariant.later in omega (arith, a, b));
  still = c.serve_one.ensures.unmoved (λ is. let none : None ≡ Some ConnectionFault = sym c.in_default.is ∙ is in let bad : ⊥ = cc in bad) ∙ c.loop-room.invariant.still;
}

pub returns-in-Some-clause-reached : goal.returns-in-Some-clause-reached
returns-in-Some-clause-reached g c = reach_more (IsAsked g.C.Handler.asked g.C.Handler.faults g.F.Api.scheme.status) _ _ _ c.loop-room.invariant.reached c.serve_one.ensures.reached

pub returns-clause-exchange : goal.returns-clause-exchange
returns-clause-exchange g c honest =
    near_limit (Answers g.F.Api.scheme g.C.Handler.asked g.C.Handler.faults) _ _ c.loop-room.held.items (g.L.Connection.tells c.loop-room.link).left _ _ _ _ c.loop-room.room (c.loop-room.invariant.going honest) (let t = c.loop-room-test.false in omega (arith, t)) (c.loop-room.invariant.room honest)

pub returns-in-Some-clause-unmoved : goal.returns-in-Some-clause-unmoved
returns-in-Some-clause-unmoved g c other = c.serve_one.ensures.unmoved (λ is. let same : Some c.in-Some.end ≡ Some ConnectionFault = sym c.in-Some.is ∙ is in let here : c.in-Some.end ≡ ConnectionFault = cc in other here) ∙ c.loop-room.invariant.still
