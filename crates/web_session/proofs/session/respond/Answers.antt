use Rattle.std.proofs.Common.{◌++◌}
use Rattle.web_session.specs.Asks.{Answers}
use Rattle.web_session.specs.Exchange.{request_at}
use Rattle.web_session.proofs.Steps.{step_stopped, stopped_as, answered_as, half_of, step_half, step_closing, step_going, front_serves, rest_is}
use Rattle.web_session.proofs.SessionLemmas.{same_request}
use Rattle.web_session.proofs.session.respond.Goals as goal

pub returns-in-Err-clause-step : goal.returns-in-Err-clause-step
returns-in-Err-clause-step g c honest n is =
    let left = (g.L.Connection.tells c.args.link.now).left in
    let held = c.args.held.now.items in
    let answers = Answers g.F.Api.scheme g.C.Handler.asked g.C.Handler.faults in
    front_serves answers _ _ _ _ _ _ c.in-Err.stop c.end_of.result c.end_of.ensures
    (step_stopped answers n _ _ _ _ _ (request_at (held ++ left) c.args.end c.args.head) is
    (stopped_as answers _ _ _ _ _ _ (same_request held _ left c.args.head c.args.end c.requires.within c.deref.ensures.value) (c.in-Err.ensures.err honest)))

pub returns-then-closes-clause-step : goal.returns-then-closes-clause-step
returns-then-closes-clause-step g c honest n is =
    let left = (g.L.Connection.tells c.args.link.now).left in
    let held = c.args.held.now.items in
    let answers = Answers g.F.Api.scheme g.C.Handler.asked g.C.Handler.faults in
    step_closing answers n _ _ _ _ _ (request_at (held ++ left) c.args.end c.args.head) is c.if-closes.true
    (answered_as answers _ _ _ _ _ _ (same_request held _ left c.args.head c.args.end c.requires.within c.deref.ensures.value) (c.in_default.ensures.ok honest))

pub returns-in-Ok-clause-step : goal.returns-in-Ok-clause-step
returns-in-Ok-clause-step g c honest n is =
    let left = (g.L.Connection.tells c.args.link.now).left in
    let held = c.args.held.now.items in
    let answers = Answers g.F.Api.scheme g.C.Handler.asked g.C.Handler.faults in
    step_going answers n _ _ _ _ _ _ (request_at (held ++ left) c.args.end c.args.head) is c.if-closes.false
    (rest_is held left _ _ _ c.requires.within c.in-Ok.ensures (c.respond_to.ensures.left honest))
    (answered_as answers _ _ _ _ _ _ (same_request held _ left c.args.head c.args.end c.requires.within c.deref.ensures.value) (c.in_default.ensures.ok honest))

pub returns-in-Err-drop_front-clause-step : goal.returns-in-Err-drop_front-clause-step
returns-in-Err-drop_front-clause-step g c honest n is =
    let left = (g.L.Connection.tells c.args.link.now).left in
    let held = c.args.held.now.items in
    let answers = Answers g.F.Api.scheme g.C.Handler.asked g.C.Handler.faults in
    step_half answers n _ _ _ _ _ (request_at (held ++ left) c.args.end c.args.head) is
    (half_of answers _ _ _ _ _
    (answered_as answers _ _ _ _ _ _ (same_request held _ left c.args.head c.args.end c.requires.within c.deref.ensures.value) (c.in_default.ensures.ok honest)))
