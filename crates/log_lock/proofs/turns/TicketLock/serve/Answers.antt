use Rattle.std.proofs.Common.{◌≡◌, [], ◌∷◌, Some, rules, subst}
use Rattle.log_lock.specs.Rule.{HasGone}
use Rattle.log_lock.specs.Turning.{TakesRoom, wants_in}
use Rattle.log_lock.proofs.Lists.{has_slot, slot_same}
use Rattle.log_lock.proofs.Goings.{takes_room}
use Rattle.log_lock.proofs.turns.TicketLock.serve.Goals as goal

pub exchange-taken-requires : goal.exchange-taken-requires
exchange-taken-requires g c = (search rules, has_slot c.args.seat.now.me.1 (Some c.requires.served.0) c.requires.served.1)

pub returns-clause-turned : goal.returns-clause-turned
returns-clause-turned g c x is =
    let taken : c.exchange-taken.result ≡ Some x = slot_same c.args.seat.now.me.1 _ c.exchange-taken.result (Some x) c.exchange-taken.ensures.2 is in
    let found = c.in-Some.is in
    let same : c.in-Some.state ≡ x = cc in
    let gone = c.submit-reply.ensures in
    let says = g.T.LockedState.says c.submit-reply.result in
    let told : g.T.LockedState.snapshot c.tell.new.state ≡ g.T.LockedState.snapshot c.in-Some.state = c.tell.ensures.same in
    let room : g.T.LockedState.room c.tell.new.state ≡ g.T.LockedState.room c.in-Some.state = c.tell.ensures.room in
    let takes : TakesRoom (wants_in (g.T.LockedState.wants c.submit-reply.result)) (g.T.LockedState.room c.in-Some.state) (g.T.LockedState.room c.submit-reply.new.self) =
    subst (λ n. TakesRoom (wants_in (g.T.LockedState.wants c.submit-reply.result)) n (g.T.LockedState.room c.submit-reply.new.self)) room (takes_room (g.T.LockedState.wants c.submit-reply.result) _ _ gone.memory gone.room) in
    subst (λ z. (y : _) × HasGone (g.T.LockedState.own c.args.operation) says (g.T.LockedState.snapshot z) (g.T.LockedState.snapshot y) × g.T.LockedState.meets (g.T.LockedState.snapshot z) c.args.operation c.submit-reply.result (g.T.LockedState.snapshot y) × ((start : _) → g.T.LockedState.reached start z → g.T.LockedState.reached start y)
    × TakesRoom (wants_in (g.T.LockedState.wants c.submit-reply.result)) (g.T.LockedState.room z) (g.T.LockedState.room y) × (c.exchange-before.new.seat.me.1 ≡ (0, Some y) ∷ [])) same
    (subst (λ s. (y : _) × HasGone (g.T.LockedState.own c.args.operation) says s (g.T.LockedState.snapshot y) × g.T.LockedState.meets s c.args.operation c.submit-reply.result (g.T.LockedState.snapshot y) × ((start : _) → g.T.LockedState.reached start c.in-Some.state → g.T.LockedState.reached start y)
    × TakesRoom (wants_in (g.T.LockedState.wants c.submit-reply.result)) (g.T.LockedState.room c.in-Some.state) (g.T.LockedState.room y) × (c.exchange-before.new.seat.me.1 ≡ (0, Some y) ∷ [])) told
    (c.submit-reply.new.self, (gone.goes, gone.rose, gone.still, gone.fixed), gone.meets, λ start there. gone.reaches start (c.tell.ensures.reaches start there), takes, search rules))
