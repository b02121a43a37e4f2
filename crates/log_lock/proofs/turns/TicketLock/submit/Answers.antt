use Rattle.std.proofs.Common.{rules}
use Rattle.log_lock.proofs.Learning.{known_before, known_then, turn_known, turn_seen}
use Rattle.log_lock.proofs.turns.TicketLock.submit.Goals as goal

pub returns-clause-turned : goal.returns-clause-turned
returns-clause-turned g c =
    let before = known_before c.args.self.now.id c.handle.inside.badge.table_id c.handle.inside.badge.views c.into_seat-seat.result.me.0 c.args.handle.now (search rules) (search rules) c.requires in
    let after = known_then c.args.self.now.id c.into_badge.result.table_id c.into_badge.result.views c.submit_in_turn-reply.new.seat.me.0 (search rules) (search rules) in
    turn_known (g.T.LockedState.own c.args.operation) (g.T.LockedState.says c.submit_in_turn-reply.result) _ _ _ _ _ before after c.submit_in_turn-reply.ensures.turned

pub returns-clause-seen : goal.returns-clause-seen
returns-clause-seen g c = turn_seen (g.T.LockedState.own c.args.operation) (g.T.LockedState.says c.submit_in_turn-reply.result) _ c.args.handle.now _ (returns-clause-turned g c)
