use Rattle.std.proofs.Common.{◌∙◌, ◌⊎◌, inl, inr, IsTrue, List, ℕ, sym, subst, arith}
use Rattle.io_traits.specs.DiskState.{EachMoment, IsRead}
use Rattle.io_traits.proofs.Moments.{each_moment_of_read}
use Rattle.log_journal.specs.Opening.{opening_disk}
use Rattle.log_machine.specs.Recovers.{payloads_of, Recovers}
use Rattle.log_machine.proofs.Openings.{opening_moments}
use Rattle.log_machine.proofs.Faults.{at_err}
use Rattle.log_machine.proofs.Sound.{decided_whole}
use Rattle.log_machine.proofs.log.Log.recover.Goals as goal

pub returns-in_err-machine-clause-moments_err : goal.returns-in_err-machine-clause-moments_err
returns-in_err-machine-clause-moments_err g c honest history each =
    let recovers = λ (file : List ℕ). Recovers g.R.StateMachine.scheme file history in
    let old = g.D.Disk.tells c.args.disk in
    let e = c.in_err-machine.field-0.0 in
    at_err c.from_residual.result e (λ x. EachMoment old (g.D.Disk.tells x.1) recovers) c.from_residual.ensures.1
    (each_moment_of_read old (g.D.Disk.tells e.1) recovers (λ x since. g.met.D.Disk.only_now c.args.disk x honest since) each (c.in_err-machine.ensures.told_err honest))

pub returns-in_err-journal-clause-moments_err : goal.returns-in_err-journal-clause-moments_err
returns-in_err-journal-clause-moments_err g c honest history each =
    let scheme = g.R.StateMachine.scheme in
    let recovers = λ (file : List ℕ). Recovers scheme file history in
    let old = g.D.Disk.tells c.args.disk in
    let mid = g.D.Disk.tells (opening_disk c.in_ok-machine.opening) in
    let still = subst IsTrue (sym c.in_ok-machine.ensures.honest) honest in
    let ps = payloads_of scheme.spelling (g.R.StateMachine.history c.in_ok-machine.machine) in
    let all = c.in_ok-machine.ensures.all honest in
    let e = c.in_err-journal.field-0.0 in
    at_err c.from_residual-in_err-journal.result e (λ x. EachMoment old (g.D.Disk.tells x.1) recovers) c.from_residual-in_err-journal.ensures.1
    (opening_moments scheme old mid (g.D.Disk.tells e.1) history ps (λ x since. g.met.D.Disk.only_now c.args.disk x honest since) (g.met.D.Disk.reads_as_image c.args.disk honest)
    (c.in_ok-machine.ensures.told honest) all.stands each (λ images. c.in_err-journal.ensures.moments_err still scheme.header ps all images))

pub returns-clause-moments : goal.returns-clause-moments
returns-clause-moments g c honest history each =
    let scheme = g.R.StateMachine.scheme in
    let old = g.D.Disk.tells c.args.disk in
    let mid = g.D.Disk.tells (opening_disk c.in_ok-machine.opening) in
    let still = subst IsTrue (sym c.in_ok-machine.ensures.honest) honest in
    let ps = payloads_of scheme.spelling (g.R.StateMachine.history c.in_ok-machine.machine) in
    let all = c.in_ok-machine.ensures.all honest in
    opening_moments scheme old mid _ history ps (λ x since. g.met.D.Disk.only_now c.args.disk x honest since) (g.met.D.Disk.reads_as_image c.args.disk honest)
    (c.in_ok-machine.ensures.told honest) all.stands each (λ images. c.in_ok-journal.ensures.moments still scheme.header ps all images)

pub returns-clause-elapsed : goal.returns-clause-elapsed
returns-clause-elapsed g c honest =
    let still = subst IsTrue (sym c.in_ok-machine.ensures.honest) honest in
    omega (arith, (c.in_ok-machine.ensures.told honest).time.later, c.in_ok-journal.ensures.elapsed still)

pub returns-in_err-machine-clause-untouched : goal.returns-in_err-machine-clause-untouched
returns-in_err-machine-clause-untouched g c honest =
    let old = g.D.Disk.tells c.args.disk in
    at_err c.from_residual.result c.in_err-machine.field-0.0 (λ x. ((history : List g.row.R-Entry.Denot) × Recovers g.R.StateMachine.scheme old.reads history) ⊎ IsRead old (g.D.Disk.tells x.1)) c.from_residual.ensures.1
    (inr (c.in_err-machine.ensures.told_err honest))

pub returns-in_err-journal-clause-untouched : goal.returns-in_err-journal-clause-untouched
returns-in_err-journal-clause-untouched g c honest =
    let old = g.D.Disk.tells c.args.disk in
    at_err c.from_residual-in_err-journal.result c.in_err-journal.field-0.0 (λ x. ((history : List g.row.R-Entry.Denot) × Recovers g.R.StateMachine.scheme old.reads history) ⊎ IsRead old (g.D.Disk.tells x.1)) c.from_residual-in_err-journal.ensures.1
    (inl (g.R.StateMachine.history c.in_ok-machine.machine, c.in_ok-machine.ensures.recovers honest))

pub invariant_of-result : goal.invariant_of-result
invariant_of-result g c =
    let scheme = g.R.StateMachine.scheme in
    let h = g.R.StateMachine.history c.in_ok-machine.machine in
    let read = c.in_ok-machine.ensures in
    let ready = c.in_ok-journal.ensures in (
      decided_whole g.D.Disk scheme g.met.D.Disk.reads_as_image g.met.R.StateMachine.legal_past c.in_ok-journal.journal h (g.R.StateMachine.spare c.in_ok-machine.machine)
          (ready.count ∙ read.count) read.range ready.decided (λ honest.
          let last = subst IsTrue ready.honest honest in
          let first = subst IsTrue read.honest last in
          let list = read.recovers first in
          (record { entries = list.entries; legal = list.legal }, ready.kept last scheme.header (payloads_of scheme.spelling h) (read.all first))),
      tt,
    )

pub ready-requires-clause-stands : goal.ready-requires-clause-stands
ready-requires-clause-stands g c honest =
    let scheme = g.R.StateMachine.scheme in
    let first = subst IsTrue c.in_ok-machine.ensures.honest honest in
    (scheme.header, (payloads_of scheme.spelling (g.R.StateMachine.history c.in_ok-machine.machine), c.in_ok-machine.ensures.all first))
