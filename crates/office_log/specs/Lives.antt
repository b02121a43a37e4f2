-- What is kept over any list of turns, faults, crashes and openings.
use Rattle.std.specs.Prelude.{List}
use Rattle.aid_filings.specs.declared.filing.Filing.{Filing}
use Rattle.io_traits.specs.declared.disk.Disk.{Ghosts}
use Rattle.log_machine.specs.Lives as list
use Rattle.office_log.specs.Scheme.{office_scheme}
use Rattle.office_log.specs.Submits.{office_semantics}
use Rattle.log_stamps.specs.declared.entry.StampedEntry.{StampedEntry}

-- what became of a filing
abbrev pub Fate : Type 0
Fate = list.Fate (StampedEntry Filing)

-- What may stand of filings with these fates, the newest first: each admitted one, each uncertain one or not, in the
-- order in which they were filed.
abbrev pub MayHave : List Fate → List (StampedEntry Filing) → Type 0
MayHave = list.MayHave

-- where a life stands: a file that a crash left, or an open office
abbrev pub Place : Type 0 → Type 0
Place D = list.Place D (StampedEntry Filing)

-- a life of an office that had this history when it began
abbrev pub Life : {D : Type 0} → Ghosts D → List (StampedEntry Filing) → List Fate → Place D → Type 0
Life disk = list.Life disk office_scheme office_semantics
