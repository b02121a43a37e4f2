use Rattle.std.proofs.Common.{◌∙◌, ap, sym, subst, rules}
use Rattle.std.specs.Prelude.{is_some}
use Rattle.log_lock.specs.Passes.{Closes}
use Rattle.log_lock.specs.Views.{known}
use Rattle.log_lock.proofs.Lists.{same_some}
use Rattle.log_lock.proofs.Learning.{known_before}
use Rattle.log_lock.proofs.Steps as steps
use Rattle.log_lock.proofs.turns.TicketLock.close.Goals as goal

pub unwrap-requires : goal.unwrap-requires
unwrap-requires g c =
    let found = steps.closed_state g.T.LockedState.snapshot g.T.LockedState.reached g.T.LockedState.room c.self.inside.table.shared.key c.into_seat.result.id c.into_seat.result.me _ _ c.args.self.id c.close_with-closed.ensures.values.2 (search rules) (search rules) c.take-state.result c.take-state.ensures.value in
    ap is_some found.1

pub returns-clause-closes : goal.returns-clause-closes
returns-clause-closes g c =
    let found = steps.closed_state g.T.LockedState.snapshot g.T.LockedState.reached g.T.LockedState.room c.self.inside.table.shared.key c.into_seat.result.id c.into_seat.result.me _ _ c.args.self.id c.close_with-closed.ensures.values.2 (search rules) (search rules) c.take-state.result c.take-state.ensures.value in
    let same = same_some (sym found.1 ∙ c.unwrap.ensures) in
    let before = known_before c.args.self.id c.handle.inside.badge.table_id c.handle.inside.badge.views c.into_seat.result.me.0 c.args.handle (search rules) (search rules) c.requires.lock in
    subst (λ p. Closes p (g.T.LockedState.snapshot c.unwrap.result)) before (subst (λ x. Closes (known c.args.self.id c.into_seat.result.me.0) (g.T.LockedState.snapshot x)) same found.2)

pub returns-clause-reached : goal.returns-clause-reached
returns-clause-reached g c =
    let found = steps.closed_state g.T.LockedState.snapshot g.T.LockedState.reached g.T.LockedState.room c.self.inside.table.shared.key c.into_seat.result.id c.into_seat.result.me _ _ c.args.self.id c.close_with-closed.ensures.values.2 (search rules) (search rules) c.take-state.result c.take-state.ensures.value in
    let same = same_some (sym found.1 ∙ c.unwrap.ensures) in
    let before = known_before c.args.self.id c.handle.inside.badge.table_id c.handle.inside.badge.views c.into_seat.result.me.0 c.args.handle (search rules) (search rules) c.requires.lock in
    subst (λ p. g.T.LockedState.reached p.opening c.unwrap.result) before (subst (λ x. g.T.LockedState.reached (known c.args.self.id c.into_seat.result.me.0).opening x) same found.3)
