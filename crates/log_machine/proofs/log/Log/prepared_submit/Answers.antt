use Rattle.std.proofs.Common.{rules, ◌≡◌, ◌∙◌, IsTrue, ap, subst, sym}
use Rattle.io_traits.specs.DiskState.{EachMoment}
use Rattle.log_machine.specs.Kept.{IsSound}
use Rattle.log_machine.specs.Recovers.{RecoversEither}
use Rattle.log_machine.specs.Submits.{after_ask, with_entry}
use Rattle.log_machine.proofs.Sound.{unwritten_moments, unwritten_way, moments_on, way_on}
use Rattle.log_machine.proofs.log.Log.prepared_submit.Goals as goal

pub returns-then-is_err-clause-moments : goal.returns-then-is_err-clause-moments
returns-then-is_err-clause-moments g c honest =
    let old = c.args.self.now in
    let r = c.reserve.ensures in
    let sound : IsSound g.R.StateMachine.scheme (g.D.Disk.tells old.disk) old.history old.pending = rw (r.history, r.pending, r.disk) at (r.sound honest) in
    rw r.disk (unwritten_moments g.R.StateMachine.scheme g.R.StateMachine.semantics (g.D.Disk.tells old.disk) old.history old.pending c.args.operation (λ x since. g.met.D.Disk.only_now old.disk x honest since) sound)

pub returns-clause-sound : goal.returns-clause-sound
returns-clause-sound g c honest =
    c.answer.ensures.sound (subst IsTrue (sym (c.settle.ensures.honest ∙ ap (λ d. (g.D.Disk.tells d).honest) c.reserve.ensures.disk)) honest)

pub returns-then-is_err-clause-way : goal.returns-then-is_err-clause-way
returns-then-is_err-clause-way g c honest =
    let old = c.args.self.now in
    let r = c.reserve.ensures in
    let sound : IsSound g.R.StateMachine.scheme (g.D.Disk.tells old.disk) old.history old.pending = rw (r.history, r.pending, r.disk) at (r.sound honest) in
    rw (r.disk, r.history, r.pending) (unwritten_way g.R.StateMachine.scheme (g.D.Disk.tells old.disk) old.history old.pending (λ x since. g.met.D.Disk.only_now old.disk x honest since) sound)

pub returns-clause-moments : goal.returns-clause-moments
returns-clause-moments g c honest =
    let scheme = g.R.StateMachine.scheme in
    let old = c.args.self.now in
    let r = c.reserve.ensures in
    let settled = with_entry old.pending old.history in
    let between = g.D.Disk.tells c.settle.new.self.disk in
    let new = g.D.Disk.tells c.answer.new.self.disk in
    let still : IsTrue between.honest = subst IsTrue (sym (c.settle.ensures.honest ∙ ap (λ d. (g.D.Disk.tells d).honest) r.disk)) honest in
    let first : EachMoment (g.D.Disk.tells old.disk) between (RecoversEither scheme old.history settled) = rw (r.history, r.pending, r.disk) at (c.settle.ensures.moments (subst IsTrue (sym (ap (λ d. (g.D.Disk.tells d).honest) r.disk)) honest)) in
    let is : c.settle.new.self.history ≡ settled = search rules in
    let then_ : EachMoment between new (RecoversEither scheme settled (after_ask g.R.StateMachine.semantics settled c.args.operation)) = rw is at (c.answer.ensures.moments still) in
    moments_on scheme g.R.StateMachine.semantics (g.D.Disk.tells old.disk) between new old.history old.pending c.args.operation first then_

pub returns-clause-way : goal.returns-clause-way
returns-clause-way g c honest =
    let scheme = g.R.StateMachine.scheme in
    let old = c.args.self.now in
    let r = c.reserve.ensures in
    let settled = with_entry old.pending old.history in
    let between = g.D.Disk.tells c.settle.new.self.disk in
    let new = g.D.Disk.tells c.answer.new.self.disk in
    let still : IsTrue between.honest = subst IsTrue (sym (c.settle.ensures.honest ∙ ap (λ d. (g.D.Disk.tells d).honest) r.disk)) honest in
    let first : EachMoment (g.D.Disk.tells old.disk) between (RecoversEither scheme old.history settled) = rw (r.history, r.pending, r.disk) at (c.settle.ensures.moments (subst IsTrue (sym (ap (λ d. (g.D.Disk.tells d).honest) r.disk)) honest)) in
    let is : c.settle.new.self.history ≡ settled = search rules in
    let then_ : EachMoment between new (RecoversEither scheme settled (with_entry c.answer.new.self.pending c.answer.new.self.history)) = rw is at (c.answer.ensures.way still) in
    way_on scheme (g.D.Disk.tells old.disk) between new old.history c.answer.new.self.history old.pending c.answer.new.self.pending first then_
