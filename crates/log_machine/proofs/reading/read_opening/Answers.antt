use Rattle.std.proofs.Common.{◌≡◌, ◌⊎◌, IsTrue, List, ℕ, sym, subst}
use Rattle.log_journal.specs.declared.opening.OpenError.TheVariants.{NoMemory, DiskFault}
use Rattle.log_machine.specs.Faulty.{IsFaultyAt}
use Rattle.log_machine.proofs.NoFault.{head_refusal, read_refusal}
use Rattle.log_machine.proofs.Faults.{at_err}
use Rattle.log_machine.proofs.reading.read_opening.Goals as goal

pub returns-in_err-opening-clause-complete : goal.returns-in_err-opening-clause-complete
returns-in_err-opening-clause-complete g c honest history stands =
    let e = c.in_err-opening.field-0.0 in
    let front = c.in_err-opening.ensures in
    at_err c.from_residual.result e (λ x. (x.0 ≡ NoMemory) ⊎ (x.0 ≡ DiskFault)) c.from_residual.ensures.1
    (head_refusal g.R.StateMachine.scheme (g.D.Disk.tells c.args.disk).reads history e.0 stands (front.unborn honest)
    (rw c.header.ensures at (front.foreign honest)) (rw c.header.ensures at (front.old honest)) front.refusals)

pub returns-in-Err-clause-complete : goal.returns-in-Err-clause-complete
returns-in-Err-clause-complete g c honest history stands =
    let scheme = g.R.StateMachine.scheme in
    let still = subst IsTrue (sym c.in_ok-opening.ensures.honest) honest in
    let same = (c.in_ok-opening.ensures.told honest).reads in
    read_refusal scheme g.met.R.StateMachine.alone g.met.R.StateMachine.legal_past (g.D.Disk.tells c.args.disk).reads history c.in-Err.error stands
    (λ place is. subst (λ (file : List ℕ). IsFaultyAt scheme file place) same (c.in-Err.ensures.damaged still place is)) c.in-Err.ensures.refusals

pub returns-in-Err-clause-damaged : goal.returns-in-Err-clause-damaged
returns-in-Err-clause-damaged g c honest place is =
    let still = subst IsTrue (sym c.in_ok-opening.ensures.honest) honest in
    let read = c.in_ok-opening.ensures.told honest in
    (rw c.header.ensures at (c.in_ok-opening.ensures.born honest), subst (λ (file : List ℕ). IsFaultyAt g.R.StateMachine.scheme file place) read.reads (c.in-Err.ensures.damaged still place is))
