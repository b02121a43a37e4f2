-- The words of a run that answers a whole input. Own format.
use Rattle.std.specs.Prelude.{List, ℕ, pos, unsigned_abs, [], ◌∷◌, bytes_eq, codes, if◌then◌else◌, Bool, true, false, Option, Some, None, Result, Ok, Err, ℤ}
use Rattle.aid_types.specs.Whole.{whole_between, whole_of}
use Rattle.aid_types.specs.declared.text.Malformed.{Malformed}
use Rattle.hex.specs.Hex.{decode_of}
use Rattle.hex.specs.declared.error.FromHexError.{FromHexError}
use Rattle.office_export.specs.Forms.{is_seal}
use Rattle.audit.specs.declared.note.Note.{Note}
use Rattle.audit.specs.declared.words.AuditCommand.{AuditCommand}
use Rattle.audit.specs.declared.words.AuditCommand.TheVariants.{Audit, Clock, Whole}

-- a number of filings
abbrev pub count_by : Result ℤ Malformed → Option ℕ
count_by (Ok count) = Some (unsigned_abs count)
count_by (Err e) = None

-- and the bytes of a seal, where both are there
abbrev pub note_by : Option ℕ → Result (List ℕ) FromHexError → Option Note
note_by (Some count) (Ok bytes) = Some (record { count = count; seal = record { bytes = bytes } })
note_by (Some count) (Err e) = None
note_by None bytes = None

-- a note: how many filings were sealed, 0 to 4,294,967,295, and the 64 digits of their seal in lower case
abbrev pub note_of : List ℕ → List ℕ → Option Note
note_of count digits = if is_seal digits then note_by (count_by (whole_between (pos 0) (pos 4294967295) (whole_of count))) (decode_of digits) else None

-- behind the word and the word `whole`, if that is there: nothing, or a note
abbrev pub audit_of : Bool → Option Note → AuditCommand
audit_of false note = Audit note
audit_of true note = Whole note

abbrev pub noted : Bool → Option Note → Option AuditCommand
noted whole None = None
noted whole (Some note) = Some (audit_of whole (Some note))

abbrev pub command_behind : Bool → List (List ℕ) → Option AuditCommand
command_behind whole [] = Some (audit_of whole None)
command_behind whole (count ∷ digits ∷ []) = noted whole (note_of count digits)
command_behind whole _ = None

-- `audit` with `whole` behind it or not
abbrev pub audit_in : List (List ℕ) → Option AuditCommand
audit_in [] = command_behind false []
audit_in (word ∷ words) = if bytes_eq word (codes "whole") then command_behind true words else command_behind false (word ∷ words)

abbrev pub clock_in : List (List ℕ) → Option AuditCommand
clock_in [] = Some Clock
clock_in (word ∷ words) = None

-- the command that words say
abbrev pub command_in : List (List ℕ) → Option AuditCommand
command_in [] = None
command_in (word ∷ words) = if bytes_eq word (codes "audit") then audit_in words else if bytes_eq word (codes "clock") then clock_in words else None

-- how many bytes of an input are read, and how many filings of an export are judged
abbrev pub limit_of : AuditCommand → ℕ
limit_of (Audit by) = 16777216
limit_of (Whole by) = 1073741824
limit_of Clock = 16777216
