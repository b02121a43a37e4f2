-- What is told of a corrected list, filing by filing: what was done, and what becomes of each. A list is read newest first.
use Rattle.std.specs.Prelude.{ℕ, ◌+◌, List, [], ◌∷◌, ◌++◌, Option, Some, None, length}
use Rattle.aid_filings.specs.declared.filing.Filing.{Filing}
use Rattle.aid_filings.specs.declared.reply.Outcome.{Outcome}
use Rattle.aid_stamps.specs.declared.stamp.Stamp.{Stamp}
use Rattle.log_stamps.specs.Entries.{entries}
use Rattle.log_stamps.specs.declared.entry.StampedEntry.{StampedEntry}
use Rattle.office_history.specs.Answer.{outcome_of}
use Rattle.office_amends.specs.Amended.{before, corrected, named_at, records}
use Rattle.office_amends.specs.Lines.{answer_line, inserted_line, replaced_line, voided_line}
use Rattle.office_amends.specs.Stood.{answer_behind}
use Rattle.office_amends.specs.declared.correction.Change.{Change}
use Rattle.office_amends.specs.declared.correction.Change.TheVariants.{Replace, Void, Insert}
use Rattle.office_amends.specs.declared.correction.Correction.{Correction}

-- what is told of an entry behind a list, whose filing was admitted to the old list with an outcome, or wasn't in it
abbrev pub told_behind : List (StampedEntry Filing) → Filing → Option Outcome → List ℕ
told_behind list f was = answer_line (length list + 1) f was (answer_behind list f)

-- of entries that are put behind a list and weren't in the old one, each with a line in front
abbrev pub told_put : (ℕ → Filing → List ℕ) → List (StampedEntry Filing) → List (StampedEntry Filing) → List ℕ
told_put front list [] = []
told_put front list (e ∷ more) =
    told_put front list more ++ front (length (more ++ list) + 1) e.entry ++ told_behind (more ++ list) e.entry None

-- of what is put in the place of a filing of the old list: the record that it was taken out has no outcome to compare
abbrev pub told_change : List (StampedEntry Filing) → Filing → Outcome → Filing → Change → List ℕ
told_change list old was mark (Replace f) = replaced_line (length list + 1) old f ++ told_behind list f (Some was)
told_change list old was mark (Void of) = voided_line (length list + 1) old ++ told_behind list mark None
told_change list old was mark (Insert f at) = told_behind list f None

-- of what stands in its place: the filing itself, where no correction names it
abbrev pub told_place : List (StampedEntry Filing) → Filing → Outcome → Option Correction → List ℕ
told_place list old was None = told_behind list old (Some was)
told_place list old was (Some c) = told_change list old was c.record c.change

-- of the corrected list
abbrev pub told_corrected : Stamp → List Correction → List (StampedEntry Filing) → List ℕ
told_corrected stamp cs [] = []
told_corrected stamp cs (e ∷ past) =
    told_corrected stamp cs past ++ told_put inserted_line (corrected stamp cs past) (before stamp cs e.entry.key)
    ++ told_place (before stamp cs e.entry.key ++ corrected stamp cs past) e.entry (outcome_of (entries past) e.entry) (named_at cs e.entry.key)

-- of the records behind it, which have no line of their own
abbrev pub no_line : ℕ → Filing → List ℕ
no_line position f = []

-- of all
abbrev pub told : Stamp → List Correction → List (StampedEntry Filing) → List ℕ
told stamp cs past = told_corrected stamp cs past ++ told_put no_line (corrected stamp cs past) (records stamp cs)
