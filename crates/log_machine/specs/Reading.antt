-- How far a list was read from a journal.
use Rattle.std.specs.Prelude.{List}
use Rattle.io_traits.specs.declared.disk.Disk.{Ghosts}
use Rattle.log_journal.specs.Opening.{HasGiven}
use Rattle.log_journal.specs.declared.opening.OpenError.{OpenError}
use Rattle.log_journal.specs.declared.opening.OpenError.TheVariants.{NoOffice, NotJournal, OldVersion, Damaged, DiskFault, NoMemory}
use Rattle.log_journal.specs.declared.opening.Opening.{Opening}
use Rattle.log_machine.specs.Scheme.{Scheme}
use Rattle.log_machine.specs.Recovers.{payloads_of, AreEntries}

-- the entries of this list were read
pub record HasRead {D Entry : Type 0} (disk : Ghosts D) (scheme : Scheme Entry) (opening : Opening D disk) (history : List Entry) : Type 0 where
  pub given : HasGiven disk scheme.header opening (payloads_of scheme.spelling history)
  pub entries : AreEntries scheme.IsEntry history

-- a refusal that isn't by the front of a file
abbrev pub IsReadRefusal : OpenError → Type 0
IsReadRefusal NoOffice = ⊥
IsReadRefusal NotJournal = ⊥
IsReadRefusal OldVersion = ⊥
IsReadRefusal (Damaged place) = Unit {0}
IsReadRefusal DiskFault = Unit {0}
IsReadRefusal NoMemory = Unit {0}
