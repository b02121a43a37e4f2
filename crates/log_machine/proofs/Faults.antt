-- Where a file that is read has a fault.
use Rattle.std.proofs.Common.{◌≡◌, ◌⊎◌, inl, inr, ℕ, List, ◌∷◌, Result, Ok, Err, sym, ◌∙◌, subst}
use Rattle.std.specs.Prelude.{IfErr, IsErrAnd}
use Rattle.io_traits.specs.DiskState.{DiskState, IsRead}
use Rattle.io_traits.specs.declared.disk.Disk.{Ghosts}
use Rattle.log_journal.specs.Stands.{Payloads, gate_place}
use Rattle.log_journal.specs.Opening.{HasGiven, IsDamagedAt}
use Rattle.log_journal.specs.declared.opening.Opening.{Opening}
use Rattle.log_journal.specs.declared.opening.OpenError.{OpenError}
use Rattle.log_journal.specs.declared.opening.OpenError.TheVariants.{Damaged, DiskFault, NoMemory}
use Rattle.log_journal.specs.declared.header.Header.{Header}
use Rattle.log_machine.specs.Scheme.{Scheme}
use Rattle.log_machine.specs.Recovers.{payloads_of}
use Rattle.log_machine.specs.Faulty.{BeginsWith, HasFault, no_record, not_legal, IsFaultyAt}
use Rattle.log_machine.proofs.Images.{IsKeepable}

-- at an exit with this error
pub at_err : {T E : Type 0} (r : Result T E) (x : E) (P : E → Type 0) → IsErrAnd r (λ e. e ≡ x) → P x → IfErr r P
at_err (Ok v) x P is p = tt
at_err (Err e) x P is p = subst P (sym is) p

same_place : (p q : ℕ) → Damaged p ≡ Damaged q → p ≡ q
same_place p q is = cc

-- what was given stands in the file
pub begins_from : {D : Type 0} (disk : Ghosts D) (header : Header) (opening : Opening D disk) (old : DiskState) (payloads : Payloads) → IsRead old (disk.tells opening.disk) → HasGiven disk header opening payloads → BeginsWith header old.reads payloads
begins_from disk header opening old payloads read given = record { rest = given.rest; whole = sym read.reads ∙ given.whole; sizes = given.sizes }

module _ {Entry : Type 0} (scheme : Scheme Entry) (file : List ℕ) (h : List Entry) (ok : IsKeepable scheme h) where
  -- a fault behind a legal list
  pub fault_at : (at place : ℕ) → at ≡ gate_place (payloads_of scheme.spelling h) → HasFault scheme file h → Damaged at ≡ Damaged place → IsFaultyAt scheme file place
  fault_at at place gate fault is = record { history = h; entries = ok.entries; legal = ok.legal; fault = fault; gate = same_place place at (sym is) ∙ gate }

  pub record_fault : (e : OpenError) → (e ≡ DiskFault) ⊎ ((place : ℕ) × (e ≡ Damaged place) × IsDamagedAt scheme.header place file (payloads_of scheme.spelling h))
      → (place : ℕ) → e ≡ Damaged place → IsFaultyAt scheme file place
  record_fault e (inl disk) place is = absurd (let bad : ⊥ = cc (disk, is) in bad)
  record_fault e (inr (at, was, damaged)) place is = fault_at at place damaged.place (no_record at damaged) (sym was ∙ is)

  -- an entry that isn't admitted
  pub refused_fault : (entry : Entry) (at : ℕ) (e : OpenError) → at ≡ gate_place (payloads_of scheme.spelling h)
      → BeginsWith scheme.header file (payloads_of scheme.spelling (entry ∷ h)) → scheme.IsEntry entry
      → (e ≡ NoMemory) ⊎ ((e ≡ Damaged at) × (scheme.IsLegal (entry ∷ h) → ⊥)) → (place : ℕ) → e ≡ Damaged place → IsFaultyAt scheme file place
  refused_fault entry at e gate begins is_entry (inl none) place is = absurd (let bad : ⊥ = cc (none, is) in bad)
  refused_fault entry at e gate begins is_entry (inr (was, illegal)) place is = fault_at at place gate (not_legal entry begins is_entry illegal) (sym was ∙ is)
