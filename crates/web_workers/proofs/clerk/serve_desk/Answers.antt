use Rattle.std.proofs.Common.{refl, ◌∙◌, ap, subst}
use Rattle.web_session.specs.Exchange.{ServesNear}
use Rattle.log_machine.specs.declared.names.Filed.{Filed}
use Rattle.log_lock.specs.Passes.{Known}
use Rattle.log_stamps.specs.Rows.{semantics_under, own_under}
use Rattle.log_stamps.specs.declared.entry.StampedEntry.{StampedEntry}
use Rattle.web_workers.specs.Clerks.{HandleAnswers, HandleReaches, StampedHandler, clerking}
use Rattle.web_workers.proofs.Reached.{clerk_is, same_pass}
use Rattle.web_workers.proofs.Stamped.{reaches_under, serves_under}
use Rattle.web_workers.proofs.clerk.serve_desk.Goals as goal

pub returns-clause-exchange : goal.returns-clause-exchange
returns-clause-exchange g c honest =
    let semantics = semantics_under c.args.stamp g.R.StateMachine.semantics in
    let own = own_under c.args.stamp g.R.SingleEntryMachine.own in
    let scheme = g.T.MachineApi.scheme in
    let first : StampedHandler g.row.R-Entry.Denot = record { by = c.args.by; handle = c.args.handle; stamp = c.args.stamp } in
    let clerk = c.serve-end.new.clerk in
    let same = same_pass semantics own scheme.status (clerking first) (clerking clerk) (reaches_under g.R.StateMachine.semantics g.R.SingleEntryMachine.own scheme c.args.stamp first clerk refl c.serve-end.ensures.reached) in
    subst (λ after. ServesNear (HandleAnswers semantics own scheme) 10000 (g.L.Connection.tells c.args.link.now).left (g.L.Connection.tells c.serve-end.new.link).left (clerking first) after (g.L.Connection.tells c.args.link.now).text (g.L.Connection.tells c.serve-end.new.link).text c.serve-end.result)
    (clerk_is (clerking clerk) c.args.by c.into_pass.result same.by c.into_pass.ensures)
    (serves_under g.R.StateMachine.semantics g.R.SingleEntryMachine.own scheme c.args.stamp first clerk refl 10000 (g.L.Connection.tells c.args.link.now).left (g.L.Connection.tells c.serve-end.new.link).left (g.L.Connection.tells c.args.link.now).text (g.L.Connection.tells c.serve-end.new.link).text c.serve-end.result (c.serve-end.ensures.exchange honest))

pub returns-clause-reached : goal.returns-clause-reached
returns-clause-reached g c =
    let semantics = semantics_under c.args.stamp g.R.StateMachine.semantics in
    let own = own_under c.args.stamp g.R.SingleEntryMachine.own in
    let scheme = g.T.MachineApi.scheme in
    let first : StampedHandler g.row.R-Entry.Denot = record { by = c.args.by; handle = c.args.handle; stamp = c.args.stamp } in
    let clerk = c.serve-end.new.clerk in
    let reached = reaches_under g.R.StateMachine.semantics g.R.SingleEntryMachine.own scheme c.args.stamp first clerk refl c.serve-end.ensures.reached in
    let same = same_pass semantics own scheme.status (clerking first) (clerking clerk) reached in
    subst (HandleReaches semantics own scheme (clerking first)) (clerk_is (clerking clerk) c.args.by c.into_pass.result same.by c.into_pass.ensures) reached

pub returns-clause-lock : goal.returns-clause-lock
returns-clause-lock g c =
    let scheme = g.T.MachineApi.scheme in
    let first : StampedHandler g.row.R-Entry.Denot = record { by = c.args.by; handle = c.args.handle; stamp = c.args.stamp } in
    let same = same_pass (semantics_under c.args.stamp g.R.StateMachine.semantics) (own_under c.args.stamp g.R.SingleEntryMachine.own) scheme.status (clerking first) (clerking c.serve-end.new.clerk) (reaches_under g.R.StateMachine.semantics g.R.SingleEntryMachine.own scheme c.args.stamp first c.serve-end.new.clerk refl c.serve-end.ensures.reached) in
    ap (λ (k : Known (Filed (StampedEntry g.row.R-Entry.Denot))). k.lock) c.into_pass.ensures ∙ same.lock

pub returns-clause-share : goal.returns-clause-share
returns-clause-share g c =
    let scheme = g.T.MachineApi.scheme in
    let first : StampedHandler g.row.R-Entry.Denot = record { by = c.args.by; handle = c.args.handle; stamp = c.args.stamp } in
    let same = same_pass (semantics_under c.args.stamp g.R.StateMachine.semantics) (own_under c.args.stamp g.R.SingleEntryMachine.own) scheme.status (clerking first) (clerking c.serve-end.new.clerk) (reaches_under g.R.StateMachine.semantics g.R.SingleEntryMachine.own scheme c.args.stamp first c.serve-end.new.clerk refl c.serve-end.ensures.reached) in
    ap (λ (k : Known (Filed (StampedEntry g.row.R-Entry.Denot))). k.allowance) c.into_pass.ensures ∙ same.share

pub returns-clause-opening : goal.returns-clause-opening
returns-clause-opening g c =
    let scheme = g.T.MachineApi.scheme in
    let first : StampedHandler g.row.R-Entry.Denot = record { by = c.args.by; handle = c.args.handle; stamp = c.args.stamp } in
    let same = same_pass (semantics_under c.args.stamp g.R.StateMachine.semantics) (own_under c.args.stamp g.R.SingleEntryMachine.own) scheme.status (clerking first) (clerking c.serve-end.new.clerk) (reaches_under g.R.StateMachine.semantics g.R.SingleEntryMachine.own scheme c.args.stamp first c.serve-end.new.clerk refl c.serve-end.ensures.reached) in
    ap (λ (k : Known (Filed (StampedEntry g.row.R-Entry.Denot))). k.opening) c.into_pass.ensures ∙ same.opening
