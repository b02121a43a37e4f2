-- When a disk has an office.
use Rattle.std.specs.Prelude.{ℕ}
use Rattle.io_traits.specs.DiskState.{IsHonest, DiskState}
use Rattle.log_journal.specs.Head.{IsBorn}
use Rattle.office_log.specs.Faulty.{IsFaultyAt}
use Rattle.office_log.specs.Scheme.{office_header}

-- an honest disk whose file is an office's, and isn't damaged
abbrev pub IsOffice : DiskState → Type 0
IsOffice disk = IsHonest disk × IsBorn office_header disk.reads × ((place : ℕ) → IsFaultyAt disk.reads place → ⊥)
