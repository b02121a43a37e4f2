use Rattle.std.proofs.Common.{[], None, sym, subst}
use Rattle.io_traits.specs.DiskState.{IsHonest}
use Rattle.log_machine.specs.Kept.{IsSound}
use Rattle.log_desk_runs.specs.RanDesksOn.{HasFiled}
use Rattle.log_desks.specs.Shares.{IsReached, stand_of}
use Rattle.log_desks.proofs.Reaching.{stand_same}
use Rattle.log_desk_runs.proofs.Crew.{has_filed}
use Rattle.log_desk_runs.proofs.desks.file_all.Goals as goal

pub returns-in-Ok-clause-ran : goal.returns-in-Ok-clause-ran
returns-in-Ok-clause-ran g c =
    let e = c.in-Ok.ensures in
    let closed = c.close_desks.result in
    let parts = c.into_parts.ensures in (
      closed.waiting,
      subst (λ s. HasFiled g.R.StateMachine.semantics g.R.SingleEntryMachine.own g.C.EntryCopies.copied g.L.Rows.texts g.L.Rows.left (stand_of c.args.kept.history None [] None (g.D.Disk.faults c.args.kept.disk) (g.D.Disk.tells c.args.kept.disk).honest) s c.args.desks.now c.close_desks.new.desks)
          (sym (stand_same g.D.Disk closed.history _ closed.pending _ closed.log _ closed.waiting closed.disk _ parts.history parts.pending parts.log parts.disk))
          (has_filed g.R.StateMachine.semantics g.R.SingleEntryMachine.own g.C.EntryCopies.copied g.L.Rows.texts g.L.Rows.left c.in-Ok.turns.id c.in-Ok.rest.opening _ _ c.args.desks.now c.open_desks.new.desks c.work_all.new.desks c.close_desks.new.desks
          e.opening c.open_desks.ensures.desks c.work_all.ensures.desks c.open_desks.ensures.same e.ready c.work_all.ensures.works c.close_desks.ensures.ran c.close_desks.ensures.same),
    )

pub returns-in-Ok-clause-reached : goal.returns-in-Ok-clause-reached
returns-in-Ok-clause-reached g c =
    let closed = c.close_desks.result in
    let parts = c.into_parts.ensures in
    subst (λ d. IsReached g.D.Disk g.R.StateMachine.scheme g.M.Since.moment g.M.Since.already (stand_of c.args.kept.history None [] None (g.D.Disk.faults c.args.kept.disk) (g.D.Disk.tells c.args.kept.disk).honest) d c.into_parts.result.0.history c.into_parts.result.0.pending) (sym parts.disk)
    (subst (λ h. IsReached g.D.Disk g.R.StateMachine.scheme g.M.Since.moment g.M.Since.already (stand_of c.args.kept.history None [] None (g.D.Disk.faults c.args.kept.disk) (g.D.Disk.tells c.args.kept.disk).honest) closed.disk h c.into_parts.result.0.pending) (sym parts.history)
    (subst (λ p. IsReached g.D.Disk g.R.StateMachine.scheme g.M.Since.moment g.M.Since.already (stand_of c.args.kept.history None [] None (g.D.Disk.faults c.args.kept.disk) (g.D.Disk.tells c.args.kept.disk).honest) closed.disk closed.history p) (sym parts.pending)
    (subst (λ s. IsReached g.D.Disk g.R.StateMachine.scheme g.M.Since.moment g.M.Since.already s closed.disk closed.history closed.pending) c.in-Ok.ensures.opening c.close_desks.ensures.reached)))

pub returns-in-Ok-clause-sound : goal.returns-in-Ok-clause-sound
returns-in-Ok-clause-sound g c =
    let closed = c.close_desks.result in
    let parts = c.into_parts.ensures in
    subst (λ d. IsHonest (g.D.Disk.tells d) → IsSound g.R.StateMachine.scheme (g.D.Disk.tells d) c.into_parts.result.0.history c.into_parts.result.0.pending) (sym parts.disk)
    (subst (λ h. IsHonest (g.D.Disk.tells closed.disk) → IsSound g.R.StateMachine.scheme (g.D.Disk.tells closed.disk) h c.into_parts.result.0.pending) (sym parts.history)
    (subst (λ p. IsHonest (g.D.Disk.tells closed.disk) → IsSound g.R.StateMachine.scheme (g.D.Disk.tells closed.disk) closed.history p) (sym parts.pending) parts.sound))
