use Rattle.std.proofs.Common.{◌∙◌, subst}
use Rattle.web_session.specs.Found.{FindsIn}
use Rattle.web_session.proofs.NextRequestLemmas.{tell_large, tell_ended, tell_behind}
use Rattle.web_session.proofs.PayloadBuffer.{end_most, room_behind, room_as}
use Rattle.web_session.proofs.next_request.read_request.Goals as goal

pub returns-in-End-clause-request : goal.returns-in-End-clause-request
returns-in-End-clause-request g c honest =
    let found = subst (FindsIn c.find_head.new.held.items) c.in-End.is c.in_ok-end.ensures.finds in
    tell_behind _ _ c.await_request.result (c.in_ok-end.ensures.bytes honest)
    (c.await_request.ensures.request (c.in_ok-end.ensures.honest ∙ honest) found.0)

pub returns-in-TooLarge-clause-request : goal.returns-in-TooLarge-clause-request
returns-in-TooLarge-clause-request g c honest =
    let found = subst (FindsIn c.find_head.new.held.items) c.in-TooLarge.is c.in_ok-end.ensures.finds in
    tell_large c.find_head.new.held.items (g.L.Connection.tells c.find_head.new.link).left _ (c.in_ok-end.ensures.bytes honest) found.0 found.1

pub returns-in-InputEnded-clause-request : goal.returns-in-InputEnded-clause-request
returns-in-InputEnded-clause-request g c honest =
    let found = subst (FindsIn c.find_head.new.held.items) c.in-InputEnded.is c.in_ok-end.ensures.finds in
    tell_ended c.find_head.new.held.items (g.L.Connection.tells c.find_head.new.link).left _ (c.in_ok-end.ensures.bytes honest) (c.in_ok-end.ensures.end honest c.in-InputEnded.is) found.0 found.1

pub returns-in-End-clause-no_further : goal.returns-in-End-clause-no_further
returns-in-End-clause-no_further g c honest small =
    let found = subst (FindsIn c.find_head.new.held.items) c.in-End.is c.in_ok-end.ensures.finds in
    room_as _ _ (g.L.Connection.tells c.await_request.new.link).left (c.in_ok-end.ensures.bytes honest)
    (c.await_request.ensures.no_further (c.in_ok-end.ensures.honest ∙ honest)
    (room_behind c.args.held.now.items (g.L.Connection.tells c.args.link.now).left c.find_head.new.held.items (g.L.Connection.tells c.find_head.new.link).left (c.in_ok-end.ensures.bytes honest) (c.find_head.ensures.no_further honest small))
    (end_most c.find_head.new.held.items c.in-End.end found.0))
