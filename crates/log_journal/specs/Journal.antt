-- What a journal keeps on its disk.
use Rattle.std.specs.Prelude.{◌≡◌, ℕ, List, length, Some, None, IsSome}
use Rattle.io_traits.specs.DiskState.{EachImage}
use Rattle.io_traits.specs.declared.disk.Disk.{Ghosts}
use Rattle.log_journal.specs.Ahead.{IsAhead}
use Rattle.log_journal.specs.Stands.{Payloads, StandsFor, BeforeOrWith, WithGateOpen, gate_place}
use Rattle.log_journal.specs.declared.header.Header.{Header}
use Rattle.log_journal.specs.declared.journal.Journal.{Journal}

-- its disk
abbrev pub journal_disk : {D : Type 0} {disk : Ghosts D} → Journal D disk → D
journal_disk journal = journal.disk

-- how many payloads stand
abbrev pub journal_count : {D : Type 0} {disk : Ghosts D} → Journal D disk → ℕ
journal_count journal = journal.count

-- the payload that was written ahead, none where it has no bytes
abbrev pub journal_ahead : {D : Type 0} {disk : Ghosts D} → Journal D disk → List ℕ
journal_ahead journal = journal.ahead

-- its file may be made longer
abbrev pub MayLengthen : {D : Type 0} {disk : Ghosts D} → Journal D disk → Type 0
MayLengthen journal = IsSome journal.lengthened

-- nothing is undecided
abbrev pub IsDecided : {D : Type 0} {disk : Ghosts D} → Journal D disk → Type 0
IsDecided journal = journal.undecided ≡ None

-- a payload is undecided
abbrev pub HasUndecided : {D : Type 0} {disk : Ghosts D} → Journal D disk → Type 0
HasUndecided journal = IsSome journal.undecided

-- nothing is undecided: each image stands for the payloads, and has behind them what was written ahead
pub record Keeps {D : Type 0} (disk : Ghosts D) (header : Header) (journal : Journal D disk) (payloads : Payloads) : Type 0 where
  pub each : EachImage (disk.tells journal.disk) (λ file. StandsFor header file payloads)
  pub ahead : IsAhead header (disk.tells journal.disk) payloads journal.ahead
  pub decided : journal.undecided ≡ None
  pub gate : journal.gate ≡ gate_place payloads
  pub count : journal.count ≡ length payloads

-- One payload is undecided: each image stands for the payloads or for them with it, and for them with it
-- once its gate byte is set to 1.
pub record MayKeep {D : Type 0} (disk : Ghosts D) (header : Header) (journal : Journal D disk) (payloads : Payloads) (payload : List ℕ) : Type 0 where
  pub each : EachImage (disk.tells journal.disk) (BeforeOrWith header payloads payload)
  pub gate_open : EachImage (disk.tells journal.disk) (WithGateOpen header payloads payload)
  pub undecided : journal.undecided ≡ Some (length payload)
  pub gate : journal.gate ≡ gate_place payloads
  pub count : journal.count ≡ length payloads
