use Rattle.std.proofs.Common.{◌≡◌, ℕ, ◌∷◌}
use Rattle.log_journal.specs.Stands.{gate_place}
use Rattle.log_journal.specs.Opening.{HasGiven, HasAll, opening_disk}
use Rattle.log_journal.specs.declared.opening.OpenError.TheVariants.{Damaged}
use Rattle.log_journal.proofs.Exits.{at_some}
use Rattle.log_machine.specs.Recovers.{payloads_of}
use Rattle.log_machine.specs.Faulty.{IsFaultyAt}
use Rattle.log_machine.proofs.Faults.{at_err, begins_from, refused_fault}
use Rattle.log_machine.proofs.reading.admit_next.Goals as goal

pub returns-in_err-admit_read-in-Some-clause-damaged : goal.returns-in_err-admit_read-in-Some-clause-damaged
returns-in_err-admit_read-in-Some-clause-damaged g c honest read legal =
    let scheme = g.R.StateMachine.scheme in
    let told = g.D.Disk.tells (opening_disk c.args.opening.now) in
    let h = g.R.StateMachine.history c.args.machine.now in
    let entry = c.in-Some.entry in
    let e = c.in_err-admit_read-in-Some.field-0.0 in
    let x = at_some c.in_ok-take_next.field-0 (c.in-Some.place, entry) (HasAll g.D.Disk scheme.header c.take_next.new.opening (payloads_of scheme.spelling h))
    (λ found. (found.0 ≡ gate_place (payloads_of scheme.spelling h)) × scheme.IsEntry found.1 × HasGiven g.D.Disk scheme.header c.take_next.new.opening (payloads_of scheme.spelling (found.1 ∷ h))) c.in-Some.is
    (c.in_ok-take_next.ensures.given honest h read.given) in
    at_err c.from_residual-in_err-admit_read-in-Some.result e (λ x. (place : ℕ) → x ≡ Damaged place → IsFaultyAt scheme told.reads place) c.from_residual-in_err-admit_read-in-Some.ensures.1
    (refused_fault scheme told.reads h (record { entries = read.entries; legal = legal }) entry c.in-Some.place e x.0
    (begins_from g.D.Disk scheme.header c.take_next.new.opening told (payloads_of scheme.spelling (entry ∷ h)) (c.take_next.ensures.told honest) x.2) x.1 c.in_err-admit_read-in-Some.ensures.refused)
