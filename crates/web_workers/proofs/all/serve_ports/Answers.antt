use Rattle.std.proofs.Common.{[], None, sym, subst}
use Rattle.io_traits.specs.DiskState.{IsHonest}
use Rattle.log_machine.specs.Kept.{IsSound}
use Rattle.log_desks.specs.Shares.{IsReached, stand_of}
use Rattle.log_desks.proofs.Reaching.{stand_same}
use Rattle.log_stamps.specs.Rows.{semantics_under, own_under}
use Rattle.log_stamps.specs.Stamped.{stamped_scheme}
use Rattle.web_workers.specs.Workers.{HasServed}
use Rattle.web_workers.proofs.AllPorts.{all_ended, all_hold, has_served}
use Rattle.web_workers.proofs.all.serve_ports.Goals as goal

pub work_all-requires-after_bounds : goal.work_all-requires-after_bounds
work_all-requires-after_bounds g c = λ κs bounds.
    all_hold c.in-Ok.turns.id c.in-Ok.rest.opening c.args.workers.now c.open_workers.new.workers c.open_workers.ensures.workers c.in-Ok.ensures.ready

pub close_workers-requires-clause-ended : goal.close_workers-requires-clause-ended
close_workers-requires-clause-ended g c =
    let e = c.in-Ok.ensures in
    all_ended (semantics_under c.args.stamp g.R.StateMachine.semantics) (own_under c.args.stamp g.R.SingleEntryMachine.own) g.T.MachineApi.scheme g.P.Acceptor.tells g.P.Acceptor.faults c.in-Ok.turns.id c.in-Ok.rest.opening c.args.sessions c.args.workers.now c.open_workers.new.workers c.work_all.new.workers
    c.open_workers.ensures.workers c.work_all.ensures.workers e.ready c.work_all.ensures.works

pub returns-in-Ok-clause-served : goal.returns-in-Ok-clause-served
returns-in-Ok-clause-served g c =
    let e = c.in-Ok.ensures in
    let closed = c.close_workers.result in
    let parts = c.into_parts.ensures in (
      closed.waiting,
      subst (λ s. HasServed (semantics_under c.args.stamp g.R.StateMachine.semantics) (own_under c.args.stamp g.R.SingleEntryMachine.own) g.T.MachineApi.scheme g.P.Acceptor.tells g.P.Acceptor.faults c.args.sessions (stand_of c.args.kept.history None [] None (g.D.Disk.faults c.args.kept.disk) (g.D.Disk.tells c.args.kept.disk).honest) s c.args.workers.now c.close_workers.new.workers)
          (sym (stand_same g.D.Disk closed.history _ closed.pending _ closed.log _ closed.waiting closed.disk _ parts.history parts.pending parts.log parts.disk))
          (has_served (semantics_under c.args.stamp g.R.StateMachine.semantics) (own_under c.args.stamp g.R.SingleEntryMachine.own) g.T.MachineApi.scheme g.P.Acceptor.tells g.P.Acceptor.faults c.in-Ok.turns.id c.in-Ok.rest.opening c.args.sessions c.args.workers.now c.open_workers.new.workers c.work_all.new.workers
          c.open_workers.ensures.workers c.work_all.ensures.workers e.ready c.work_all.ensures.works _ _ c.close_workers.new.workers e.opening c.close_workers.ensures.ran c.in-Ok.rest.room e.room c.close_workers.ensures.found_room c.close_workers.ensures.same),
    )

pub returns-in-Ok-clause-reached : goal.returns-in-Ok-clause-reached
returns-in-Ok-clause-reached g c =
    let closed = c.close_workers.result in
    let parts = c.into_parts.ensures in
    subst (λ d. IsReached g.D.Disk (stamped_scheme g.R.Stampable.stamped g.R.StateMachine.scheme) g.M.Since.moment g.M.Since.already (stand_of c.args.kept.history None [] None (g.D.Disk.faults c.args.kept.disk) (g.D.Disk.tells c.args.kept.disk).honest) d c.into_parts.result.0.history c.into_parts.result.0.pending) (sym parts.disk)
    (subst (λ h. IsReached g.D.Disk (stamped_scheme g.R.Stampable.stamped g.R.StateMachine.scheme) g.M.Since.moment g.M.Since.already (stand_of c.args.kept.history None [] None (g.D.Disk.faults c.args.kept.disk) (g.D.Disk.tells c.args.kept.disk).honest) closed.disk h c.into_parts.result.0.pending) (sym parts.history)
    (subst (λ p. IsReached g.D.Disk (stamped_scheme g.R.Stampable.stamped g.R.StateMachine.scheme) g.M.Since.moment g.M.Since.already (stand_of c.args.kept.history None [] None (g.D.Disk.faults c.args.kept.disk) (g.D.Disk.tells c.args.kept.disk).honest) closed.disk closed.history p) (sym parts.pending)
    (subst (λ s. IsReached g.D.Disk (stamped_scheme g.R.Stampable.stamped g.R.StateMachine.scheme) g.M.Since.moment g.M.Since.already s closed.disk closed.history closed.pending) c.in-Ok.ensures.opening c.close_workers.ensures.reached)))

pub returns-in-Ok-clause-sound : goal.returns-in-Ok-clause-sound
returns-in-Ok-clause-sound g c =
    let closed = c.close_workers.result in
    let parts = c.into_parts.ensures in
    subst (λ d. IsHonest (g.D.Disk.tells d) → IsSound (stamped_scheme g.R.Stampable.stamped g.R.StateMachine.scheme) (g.D.Disk.tells d) c.into_parts.result.0.history c.into_parts.result.0.pending) (sym parts.disk)
    (subst (λ h. IsHonest (g.D.Disk.tells closed.disk) → IsSound (stamped_scheme g.R.Stampable.stamped g.R.StateMachine.scheme) (g.D.Disk.tells closed.disk) h c.into_parts.result.0.pending) (sym parts.history)
    (subst (λ p. IsHonest (g.D.Disk.tells closed.disk) → IsSound (stamped_scheme g.R.Stampable.stamped g.R.StateMachine.scheme) (g.D.Disk.tells closed.disk) closed.history p) (sym parts.pending) parts.sound))
