use Rattle.std.proofs.Common.{◌≡◌, List, ℕ, [], ◌∷◌, ◌++◌, sym, ◌∙◌, subst}
use Rattle.log_journal.specs.Stands.{gate_place}
use Rattle.log_journal.specs.Opening.{HasGiven, HasAll, opening_disk}
use Rattle.log_journal.specs.declared.opening.OpenError.TheVariants.{Damaged}
use Rattle.log_journal.proofs.Exits.{at_none, at_some}
use Rattle.log_machine.specs.Recovers.{payloads_of}
use Rattle.log_machine.specs.Faulty.{IsFaultyAt, no_entry}
use Rattle.log_machine.proofs.Faults.{at_err, record_fault, begins_from, fault_at}
use Rattle.log_machine.proofs.reading.take_next.Goals as goal

pub returns-in_err-place-clause-damaged : goal.returns-in_err-place-clause-damaged
returns-in_err-place-clause-damaged g c honest history given entries legal =
    let scheme = g.R.StateMachine.scheme in
    let file = (g.D.Disk.tells (opening_disk c.args.opening.now)).reads in
    let e = c.in_err-place.field-0.0 in
    at_err c.from_residual.result e (λ x. (place : ℕ) → x ≡ Damaged place → IsFaultyAt scheme file place) c.from_residual.ensures.1
    (record_fault scheme file history (record { entries = entries; legal = legal }) e (c.in_err-place.ensures.damaged honest scheme.header (payloads_of scheme.spelling history) given c.requires.open))

pub returns-in_default-clause-given : goal.returns-in_default-clause-given
returns-in_default-clause-given g c honest history given =
    let ps = payloads_of g.R.StateMachine.scheme.spelling history in
    at_none c.in_ok-place.field-0 (HasAll g.D.Disk g.R.StateMachine.scheme.header c.next.new.self ps) (λ place. (place ≡ gate_place ps) × HasGiven g.D.Disk g.R.StateMachine.scheme.header c.next.new.self (ps ++ c.next.new.room ∷ [])) c.in_default.is
    (c.in_ok-place.ensures.given honest g.R.StateMachine.scheme.header ps given)

pub returns-in-Ok-clause-given : goal.returns-in-Ok-clause-given
returns-in-Ok-clause-given g c honest history given =
    let ps = payloads_of g.R.StateMachine.scheme.spelling history in
    let x = at_some c.in_ok-place.field-0 c.in-Some.place (HasAll g.D.Disk g.R.StateMachine.scheme.header c.next.new.self ps) (λ place. (place ≡ gate_place ps) × HasGiven g.D.Disk g.R.StateMachine.scheme.header c.next.new.self (ps ++ c.next.new.room ∷ [])) c.in-Some.is (c.in_ok-place.ensures.given honest g.R.StateMachine.scheme.header ps given) in
    let found = c.in-Ok.ensures.found in
    (x.0, found.0, subst (λ (p : List ℕ). HasGiven g.D.Disk g.R.StateMachine.scheme.header c.next.new.self (ps ++ p ∷ [])) (sym c.bytes.ensures.held ∙ found.1) x.1)

pub returns-in-Err-NotEntry-clause-damaged : goal.returns-in-Err-NotEntry-clause-damaged
returns-in-Err-NotEntry-clause-damaged g c honest history given entries legal place is =
    let scheme = g.R.StateMachine.scheme in
    let ps = payloads_of scheme.spelling history in
    let told = g.D.Disk.tells (opening_disk c.args.opening.now) in
    let x = at_some c.in_ok-place.field-0 c.in-Some.place (HasAll g.D.Disk g.R.StateMachine.scheme.header c.next.new.self ps) (λ place. (place ≡ gate_place ps) × HasGiven g.D.Disk g.R.StateMachine.scheme.header c.next.new.self (ps ++ c.next.new.room ∷ [])) c.in-Some.is (c.in_ok-place.ensures.given honest g.R.StateMachine.scheme.header ps given) in
    let begins = begins_from g.D.Disk scheme.header c.next.new.self told (ps ++ c.next.new.room ∷ []) (c.next.ensures.told honest) x.1 in
    fault_at scheme told.reads history (record { entries = entries; legal = legal }) c.in-Some.place place x.0
    (no_entry c.next.new.room begins (λ entry range e. c.decode.ensures.not_entry entry range (c.bytes.ensures.held ∙ e) (let err = c.in-Err-NotEntry.is in let which = c.in-Err-NotEntry.field-0-is in cc (err, which)))) is
