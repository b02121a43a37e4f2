use Rattle.std.proofs.Common.{◌∙◌, refl, inr, subst, sym}
use Rattle.web_session.specs.Asks.{IsAsked, AnswersOperation}
use Rattle.web_session.proofs.Reached.{reach_none, reach_one}
use Rattle.web_session.proofs.Joined.{on_err}
use Rattle.web_session.proofs.session.answer_call.Goals as goal

pub returns-in_err-operation-clause-reached : goal.returns-in_err-operation-clause-reached
returns-in_err-operation-clause-reached g c = reach_none (IsAsked g.C.Handler.asked g.C.Handler.faults g.F.Api.scheme.status) c.args.clerk.now

pub returns-in_default-clause-reached : goal.returns-in_default-clause-reached
returns-in_default-clause-reached g c = reach_none (IsAsked g.C.Handler.asked g.C.Handler.faults g.F.Api.scheme.status) c.args.clerk.now

pub returns-in_err-text-clause-reached : goal.returns-in_err-text-clause-reached
returns-in_err-text-clause-reached g c = reach_one (IsAsked g.C.Handler.asked g.C.Handler.faults g.F.Api.scheme.status) c.args.clerk.now c.in-Some.operation c.handle-reply.result c.handle-reply.new.self (record { step = c.handle-reply.ensures.asked; later = c.handle-reply.ensures.later; cause = c.handle-reply.ensures.cause })

pub returns-clause-reached : goal.returns-clause-reached
returns-clause-reached g c = reach_one (IsAsked g.C.Handler.asked g.C.Handler.faults g.F.Api.scheme.status) c.args.clerk.now c.in-Some.operation c.handle-reply.result c.handle-reply.new.self (record { step = c.handle-reply.ensures.asked; later = c.handle-reply.ensures.later; cause = c.handle-reply.ensures.cause })

pub returns-in_err-text-clause-err : goal.returns-in_err-text-clause-err
returns-in_err-text-clause-err g c =
    on_err c.from_residual-in_err-text.result
    (inr (
      record { status = g.F.Api.scheme.status c.handle-reply.result; text = g.F.Api.scheme.text c.handle-reply.result },
      subst (λ o. AnswersOperation g.F.Api.scheme g.C.Handler.asked g.C.Handler.faults c.args.clerk.now o (record { status = g.F.Api.scheme.status c.handle-reply.result; text = g.F.Api.scheme.text c.handle-reply.result }) c.handle-reply.new.self)
          (sym c.in-Some.is ∙ c.in_ok-operation.ensures)
          (c.handle-reply.result, record { step = c.handle-reply.ensures.asked; later = c.handle-reply.ensures.later; cause = c.handle-reply.ensures.cause }, refl),
    ))
