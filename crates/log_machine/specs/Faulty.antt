-- Where a journal file is no list's.
use Rattle.std.specs.Prelude.{◌≡◌, ℕ, List, ◌∷◌, ◌++◌, []}
use Rattle.log_journal.specs.Stands.{Payloads, ArePayloads, front_of, gate_place}
use Rattle.log_journal.specs.Opening.{IsDamagedAt}
use Rattle.log_journal.specs.declared.header.Header.{Header}
use Rattle.log_machine.specs.Scheme.{Scheme}
use Rattle.log_machine.specs.Recovers.{payloads_of, AreEntries}

-- the file begins with this header and the records of these payloads
pub record BeginsWith (header : Header) (file : List ℕ) (payloads : Payloads) : Type 0 where
  pub rest : List ℕ
  pub whole : file ≡ front_of header payloads ++ rest
  pub sizes : ArePayloads payloads

-- What stands behind the records of a list: no record and no closed gate, a payload that is no entry's spelling, or the
-- spelling of an entry that isn't legal there.
pub data HasFault {Entry : Type 0} (scheme : Scheme Entry) (file : List ℕ) (history : List Entry) : Type 0 where
  no_record : (place : ℕ) → IsDamagedAt scheme.header place file (payloads_of scheme.spelling history) → HasFault scheme file history
  no_entry : (payload : List ℕ) → BeginsWith scheme.header file (payloads_of scheme.spelling history ++ payload ∷ [])
      → ((entry : Entry) → scheme.IsEntry entry → payload ≡ scheme.spelling entry → ⊥) → HasFault scheme file history
  not_legal : (entry : Entry) → BeginsWith scheme.header file (payloads_of scheme.spelling (entry ∷ history)) → scheme.IsEntry entry
      → (scheme.IsLegal (entry ∷ history) → ⊥) → HasFault scheme file history

-- the first record of the file that isn't one of a legal list has its gate at this place
pub record IsFaultyAt {Entry : Type 0} (scheme : Scheme Entry) (file : List ℕ) (place : ℕ) : Type 0 where
  pub history : List Entry
  pub entries : AreEntries scheme.IsEntry history
  pub legal : scheme.IsLegal history
  pub fault : HasFault scheme file history
  pub gate : place ≡ gate_place (payloads_of scheme.spelling history)
