-- How entries with stamps are kept, and what a list of them makes of an ask.
use Rattle.std.specs.Prelude.{◌++◌, Option, Some, None, option_map}
use Rattle.log_journal.specs.declared.header.Header.{Header}
use Rattle.log_machine.specs.Scheme.{Scheme, Semantics}
use Rattle.log_machine.specs.declared.machine.NewEntry.{NewEntry}
use Rattle.aid_stamps.specs.Stamps.{IsStamp, stamp_bytes}
use Rattle.aid_stamps.specs.declared.stamp.Stamp.{Stamp}
use Rattle.log_stamps.specs.Entries.{entries, with_stamp}
use Rattle.log_stamps.specs.declared.entry.StampedOperation.{StampedOperation}
use Rattle.log_stamps.specs.declared.entry.StampedEntry.{StampedEntry}

-- a stamp's bytes stand before those of its entry; which lists are legal is said of the entries alone
abbrev pub stamped_scheme : {E : Type 0} → Header → Scheme E → Scheme (StampedEntry E)
stamped_scheme header scheme = record {
  header = header;
  spelling = λ e. stamp_bytes e.stamp ++ scheme.spelling e.entry;
  IsEntry = λ e. IsStamp e.stamp × scheme.IsEntry e.entry;
  admits = λ past e. scheme.admits (entries past) e.entry;
  IsLegal = λ past. scheme.IsLegal (entries past);
}

-- an ask is answered by the entries alone, and what it adds has its stamp
abbrev pub stamped_semantics : {E A V : Type 0} → Semantics E A V → Semantics (StampedEntry E) (StampedOperation A) V
stamped_semantics semantics = record {
  answer = λ past a. semantics.answer (entries past) a.operation;
  added = λ past a. option_map (with_stamp a.stamp) (semantics.added (entries past) a.operation);
}

-- what an ask adds, with a stamp
abbrev pub stamped_added : {E R : Type 0} → Stamp → Option (NewEntry E R) → Option (NewEntry (StampedEntry E) R)
stamped_added stamp None = None
stamped_added stamp (Some a) = Some (record { entry = with_stamp stamp a.entry; ruling = a.ruling })
