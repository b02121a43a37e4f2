use Rattle.std.proofs.Common.{◌∙◌, ◌++◌, sym, ap, subst, refl, true, false}
use Rattle.web_session.specs.Asks.{Answers, IsAsked}
use Rattle.web_session.specs.NextRequests.{IsMore, told_of}
use Rattle.web_session.specs.ConnectionState.{AppendsFront}
use Rattle.web_session.specs.Ends.{has_begun}
use Rattle.web_session.specs.Exchange.{rejection_of, Tells}
use Rattle.web_session.proofs.Reached.{reach_none}
use Rattle.web_session.proofs.Steps.{front_none, front_serves, more_serves, step_bad, step_bad_front, one_as, whole_as}
use Rattle.web_session.proofs.session.serve_one.Goals as goal

pub returns-in-Err-clause-step : goal.returns-in-Err-clause-step
returns-in-Err-clause-step g c honest n =
    front_serves (Answers g.F.Api.scheme g.C.Handler.asked g.C.Handler.faults) _ _ _ _ _ _ c.in-Err.stop c.end_of.result c.end_of.ensures
    (front_none (Answers g.F.Api.scheme g.C.Handler.asked g.C.Handler.faults) _ _ _ _ _ _ refl (c.read_request.ensures.text honest))

pub returns-then-has_begun-clause-step : goal.returns-then-has_begun-clause-step
returns-then-has_begun-clause-step g c honest n =
    more_serves (Answers g.F.Api.scheme g.C.Handler.asked g.C.Handler.faults) n (c.args.held.now.items ++ (g.L.Connection.tells c.args.link.now).left) c.read_request.new.held.items (g.L.Connection.tells c.read_request.new.link).left c.args.clerk.now c.args.clerk.now _ _ true
    (subst (λ l. Tells (c.args.held.now.items ++ (g.L.Connection.tells c.args.link.now).left) (told_of (c.args.held.now.items ++ (g.L.Connection.tells c.args.link.now).left) l)) c.in-Ok-More.field-0-is (c.in-Ok-More.ensures.request honest))
    (c.in-Ok-More.ensures.bytes honest)
    (c.in-Ok-More.ensures.end honest (subst IsMore (sym c.in-Ok-More.field-0-is) tt))
    (sym c.if-has_begun.true ∙ c.has_begun.ensures ∙ ap has_begun c.deref.ensures.value) refl (c.read_request.ensures.text honest)

pub returns-else-has_begun-clause-step : goal.returns-else-has_begun-clause-step
returns-else-has_begun-clause-step g c honest n =
    more_serves (Answers g.F.Api.scheme g.C.Handler.asked g.C.Handler.faults) n (c.args.held.now.items ++ (g.L.Connection.tells c.args.link.now).left) c.read_request.new.held.items (g.L.Connection.tells c.read_request.new.link).left c.args.clerk.now c.args.clerk.now _ _ false
    (subst (λ l. Tells (c.args.held.now.items ++ (g.L.Connection.tells c.args.link.now).left) (told_of (c.args.held.now.items ++ (g.L.Connection.tells c.args.link.now).left) l)) c.in-Ok-More.field-0-is (c.in-Ok-More.ensures.request honest))
    (c.in-Ok-More.ensures.bytes honest)
    (c.in-Ok-More.ensures.end honest (subst IsMore (sym c.in-Ok-More.field-0-is) tt))
    (sym c.if-has_begun.false ∙ c.has_begun.ensures ∙ ap has_begun c.deref.ensures.value) refl (c.read_request.ensures.text honest)

pub returns-in-Ok-clause-step : goal.returns-in-Ok-clause-step
returns-in-Ok-clause-step g c honest n =
    step_bad (Answers g.F.Api.scheme g.C.Handler.asked g.C.Handler.faults) n _ _ _ _ _ c.in-Ok-Bad.status (subst (λ l. Tells (c.args.held.now.items ++ (g.L.Connection.tells c.args.link.now).left) (told_of (c.args.held.now.items ++ (g.L.Connection.tells c.args.link.now).left) l)) c.in-Ok-Bad.field-0-is (c.in-Ok-Bad.ensures.request honest)) refl
    (c.in-Ok.ensures.ok (c.read_request.ensures.honest ∙ honest) ∙ ap (λ t. t ++ rejection_of c.in-Ok-Bad.status) (c.read_request.ensures.text honest))

pub returns-in-Err-reject-clause-step : goal.returns-in-Err-reject-clause-step
returns-in-Err-reject-clause-step g c honest n =
    front_serves (Answers g.F.Api.scheme g.C.Handler.asked g.C.Handler.faults) _ _ _ _ _ _ c.in-Err-reject.stop c.end_of-in-Err-reject.result c.end_of-in-Err-reject.ensures
    (step_bad_front (Answers g.F.Api.scheme g.C.Handler.asked g.C.Handler.faults) n _ _ _ _ _ c.in-Ok-Bad.status (subst (λ l. Tells (c.args.held.now.items ++ (g.L.Connection.tells c.args.link.now).left) (told_of (c.args.held.now.items ++ (g.L.Connection.tells c.args.link.now).left) l)) c.in-Ok-Bad.field-0-is (c.in-Ok-Bad.ensures.request honest)) refl
    (subst (λ old. AppendsFront old (g.L.Connection.tells c.reject.new.link).text (rejection_of c.in-Ok-Bad.status)) (c.read_request.ensures.text honest) (c.in-Err-reject.ensures.err (c.read_request.ensures.honest ∙ honest))))

pub returns-in-Ok-Whole-clause-step : goal.returns-in-Ok-Whole-clause-step
returns-in-Ok-Whole-clause-step g c honest n =
    let bytes = c.in-Ok-Whole.ensures.bytes honest in
    let tells = subst (λ l. Tells (c.args.held.now.items ++ (g.L.Connection.tells c.args.link.now).left) (told_of (c.args.held.now.items ++ (g.L.Connection.tells c.args.link.now).left) l)) c.in-Ok-Whole.field-0-is (c.in-Ok-Whole.ensures.request honest) in
    one_as (Answers g.F.Api.scheme g.C.Handler.asked g.C.Handler.faults) n _ _ _ _ _ _ _ _ c.respond.result bytes (c.read_request.ensures.text honest)
    (c.respond.ensures.step (c.read_request.ensures.honest ∙ honest) n (whole_as _ _ _ _ (sym bytes) tells))

pub returns-in-Err-clause-reached : goal.returns-in-Err-clause-reached
returns-in-Err-clause-reached g c =
    reach_none (IsAsked g.C.Handler.asked g.C.Handler.faults g.F.Api.scheme.status) c.args.clerk.now

pub returns-then-has_begun-clause-reached : goal.returns-then-has_begun-clause-reached
returns-then-has_begun-clause-reached g c =
    reach_none (IsAsked g.C.Handler.asked g.C.Handler.faults g.F.Api.scheme.status) c.args.clerk.now

pub returns-else-has_begun-clause-reached : goal.returns-else-has_begun-clause-reached
returns-else-has_begun-clause-reached g c =
    reach_none (IsAsked g.C.Handler.asked g.C.Handler.faults g.F.Api.scheme.status) c.args.clerk.now

pub returns-in-Ok-clause-reached : goal.returns-in-Ok-clause-reached
returns-in-Ok-clause-reached g c =
    reach_none (IsAsked g.C.Handler.asked g.C.Handler.faults g.F.Api.scheme.status) c.args.clerk.now

pub returns-in-Err-reject-clause-reached : goal.returns-in-Err-reject-clause-reached
returns-in-Err-reject-clause-reached g c =
    reach_none (IsAsked g.C.Handler.asked g.C.Handler.faults g.F.Api.scheme.status) c.args.clerk.now
