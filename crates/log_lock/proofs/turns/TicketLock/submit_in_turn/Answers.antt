use Rattle.log_lock.specs.Turning.{wants_in}
use Rattle.log_lock.proofs.Steps as steps
use Rattle.log_lock.proofs.turns.TicketLock.submit_in_turn.Goals as goal

pub end-requires-clause-done : goal.end-requires-clause-done
end-requires-clause-done g c =
    steps.done_of g.T.LockedState.snapshot g.T.LockedState.reached g.T.LockedState.room (g.T.LockedState.own c.args.operation) (g.T.LockedState.says c.serve-reply.result) (wants_in (g.T.LockedState.wants c.serve-reply.result)) (λ before after. g.T.LockedState.meets before c.args.operation c.serve-reply.result after) c.args.seat.now.me c.draw-number.new.seat.me c.wait.new.seat.me c.serve-reply.new.seat.me c.draw-number.result c.requires.idle c.draw-number.ensures.number c.wait.ensures.served c.serve-reply.ensures.view c.serve-reply.ensures.turned

pub returns-clause-idle : goal.returns-clause-idle
returns-clause-idle g c =
    (steps.whole_turn g.T.LockedState.snapshot g.T.LockedState.reached g.T.LockedState.room (g.T.LockedState.own c.args.operation) (g.T.LockedState.says c.serve-reply.result) (wants_in (g.T.LockedState.wants c.serve-reply.result)) (λ before after. g.T.LockedState.meets before c.args.operation c.serve-reply.result after) c.args.self.now.id c.args.seat.now.me c.draw-number.new.seat.me c.wait.new.seat.me c.serve-reply.new.seat.me c.end.new.seat.me c.draw-number.result c.requires.idle c.draw-number.ensures.number c.wait.ensures.served c.serve-reply.ensures.view c.serve-reply.ensures.turned c.end.ensures.ended).0

pub returns-clause-share : goal.returns-clause-share
returns-clause-share g c =
    (steps.whole_turn g.T.LockedState.snapshot g.T.LockedState.reached g.T.LockedState.room (g.T.LockedState.own c.args.operation) (g.T.LockedState.says c.serve-reply.result) (wants_in (g.T.LockedState.wants c.serve-reply.result)) (λ before after. g.T.LockedState.meets before c.args.operation c.serve-reply.result after) c.args.self.now.id c.args.seat.now.me c.draw-number.new.seat.me c.wait.new.seat.me c.serve-reply.new.seat.me c.end.new.seat.me c.draw-number.result c.requires.idle c.draw-number.ensures.number c.wait.ensures.served c.serve-reply.ensures.view c.serve-reply.ensures.turned c.end.ensures.ended).1

pub returns-clause-turned : goal.returns-clause-turned
returns-clause-turned g c =
    (steps.whole_turn g.T.LockedState.snapshot g.T.LockedState.reached g.T.LockedState.room (g.T.LockedState.own c.args.operation) (g.T.LockedState.says c.serve-reply.result) (wants_in (g.T.LockedState.wants c.serve-reply.result)) (λ before after. g.T.LockedState.meets before c.args.operation c.serve-reply.result after) c.args.self.now.id c.args.seat.now.me c.draw-number.new.seat.me c.wait.new.seat.me c.serve-reply.new.seat.me c.end.new.seat.me c.draw-number.result c.requires.idle c.draw-number.ensures.number c.wait.ensures.served c.serve-reply.ensures.view c.serve-reply.ensures.turned c.end.ensures.ended).2

pub returns-clause-wants : goal.returns-clause-wants
returns-clause-wants g c =
    (steps.whole_turn g.T.LockedState.snapshot g.T.LockedState.reached g.T.LockedState.room (g.T.LockedState.own c.args.operation) (g.T.LockedState.says c.serve-reply.result) (wants_in (g.T.LockedState.wants c.serve-reply.result)) (λ before after. g.T.LockedState.meets before c.args.operation c.serve-reply.result after) c.args.self.now.id c.args.seat.now.me c.draw-number.new.seat.me c.wait.new.seat.me c.serve-reply.new.seat.me c.end.new.seat.me c.draw-number.result c.requires.idle c.draw-number.ensures.number c.wait.ensures.served c.serve-reply.ensures.view c.serve-reply.ensures.turned c.end.ensures.ended).3
