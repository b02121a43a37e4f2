-- What one seal says of two lists. Own.
use Rattle.std.specs.Prelude.{◌≡◌, ◌⊎◌, ℕ, List}
use Rattle.aid_filings.specs.declared.filing.Filing.{Filing}
use Rattle.aid_seals.specs.Seals.{IsCollision, clash}
use Rattle.log_stamps.specs.Entries.{entries, stamps_of}
use Rattle.log_stamps.specs.declared.entry.StampedEntry.{StampedEntry}
use Rattle.office_export.specs.Seals.{office_name, payloads}

-- the bytes of each filing of a list behind those of its stamp
abbrev pub records_of : List (StampedEntry Filing) → List (List ℕ)
records_of past = payloads (entries past) (stamps_of past)

-- the lists are one, filing by filing and stamp by stamp, or the two messages that are found in them differ and have one SHA-256
abbrev pub IsOneOrCollision : List (StampedEntry Filing) → List (StampedEntry Filing) → Type 0
IsOneOrCollision past other = (past ≡ other) ⊎ IsCollision (clash office_name (records_of past) office_name (records_of other))
