-- How far a journal was read.
use Rattle.std.specs.Prelude.{◌≡◌, ℕ, List, ◌++◌, length, Option, IsTrue}
use Rattle.io_traits.specs.declared.disk.Disk.{Ghosts}
use Rattle.log_journal.specs.Stands.{Payloads, StandsFor, front_of, gate_place, ArePayloads}
use Rattle.log_journal.specs.Record.{IsNoRecord}
use Rattle.log_journal.specs.declared.header.Header.{Header}
use Rattle.log_journal.specs.declared.opening.OpenError.{OpenError}
use Rattle.log_journal.specs.declared.opening.OpenError.TheVariants.{NoOffice, NotJournal, OldVersion, Damaged, DiskFault}
use Rattle.log_journal.specs.declared.opening.Opening.{Opening}

-- its disk
abbrev pub opening_disk : {D : Type 0} {disk : Ghosts D} → Opening D disk → D
opening_disk opening = opening.disk

-- how many payloads were given
abbrev pub opening_count : {D : Type 0} {disk : Ghosts D} → Opening D disk → ℕ
opening_count opening = opening.count

-- the refusal that every later call repeats, where one came
abbrev pub opening_refusal : {D : Type 0} {disk : Ghosts D} → Opening D disk → Option OpenError
opening_refusal opening = opening.refusal

-- a gate that isn't open was reached
abbrev pub HasEnded : {D : Type 0} {disk : Ghosts D} → Opening D disk → Type 0
HasEnded opening = IsTrue opening.ended

-- these payloads were given: the file begins with their records, and the next gate stands behind them
pub record HasGiven {D : Type 0} (disk : Ghosts D) (header : Header) (opening : Opening D disk) (payloads : Payloads) : Type 0 where
  pub rest : List ℕ
  pub whole : (disk.tells opening.disk).reads ≡ front_of header payloads ++ rest
  pub sizes : ArePayloads payloads
  pub gate : opening.gate ≡ gate_place payloads
  pub count : opening.count ≡ length payloads

-- all were given: the file stands for these payloads
pub record HasAll {D : Type 0} (disk : Ghosts D) (header : Header) (opening : Opening D disk) (payloads : Payloads) : Type 0 where
  pub stands : StandsFor header (disk.tells opening.disk).reads payloads
  pub ended : IsTrue opening.ended
  pub gate : opening.gate ≡ gate_place payloads
  pub count : opening.count ≡ length payloads

-- behind these payloads no record stands, and no closed gate
pub record IsDamagedAt (header : Header) (at : ℕ) (file : List ℕ) (payloads : Payloads) : Type 0 where
  pub rest : List ℕ
  pub whole : file ≡ front_of header payloads ++ rest
  pub sizes : ArePayloads payloads
  pub no_record : IsNoRecord rest
  pub place : at ≡ gate_place payloads

-- a refusal of the front of a file
abbrev pub IsHeadRefusal : OpenError → Type 0
IsHeadRefusal NoOffice = Unit {0}
IsHeadRefusal NotJournal = Unit {0}
IsHeadRefusal OldVersion = Unit {0}
IsHeadRefusal DiskFault = Unit {0}
IsHeadRefusal other = ⊥

-- a refusal of what stands at a gate
abbrev pub IsGateRefusal : OpenError → Type 0
IsGateRefusal (Damaged place) = Unit {0}
IsGateRefusal DiskFault = Unit {0}
IsGateRefusal other = ⊥
