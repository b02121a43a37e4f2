-- What a run of many desks of the office does, and when their rows can all be filed.
use Rattle.std.specs.Prelude.{ℕ, ℤ, List, map, Option, Result}
use Rattle.io_traits.specs.declared.source.Source.{Ghosts as SourceGhosts}
use Rattle.io_traits.specs.declared.sink.Sink.{Ghosts as SinkGhosts}
use Rattle.aid_filings.specs.declared.filing.Filing.{Filing}
use Rattle.io_traits.specs.DiskState.{DiskState}
use Rattle.io_traits.specs.declared.disk.Disk.{Ghosts}
use Rattle.format_rows.specs.declared.error.RowError.{RowError}
use Rattle.format_kinds.specs.declared.kind.Kind.{Kind}
use Rattle.log_desk_runs.specs.DesksDone as done
use Rattle.log_desk_runs.specs.RanDesksOn as crew
use Rattle.log_desk_runs.specs.Reads.{Reads}
use Rattle.log_desks.specs.Desks.{DeskView}
use Rattle.log_machine.specs.declared.names.Filed.{Filed}
use Rattle.office_log.specs.Scheme.{office_scheme}
use Rattle.office_log.specs.Submits.{asked as filing_asked, office_semantics}
use Rattle.log_lock.specs.declared.turned.Snapshot.{Snapshot}
use Rattle.run_rows.specs.Asks.{asked, desk_rows, desk_texts}
use Rattle.run_rows.specs.declared.desk.DeskRowFormat.{DeskRowFormat}
use Rattle.run_rows.specs.declared.desk.DeskRows.{DeskRows}
use Rattle.aid_stamps.specs.declared.stamp.Stamp.{Stamp}
use Rattle.log_stamps.specs.Rows.{stamped_rows, stamped_texts}
use Rattle.log_stamps.specs.declared.entry.StampedEntry.{StampedEntry}
use Rattle.log_stamps.specs.declared.rows.StampedRowFormat.{StampedRowFormat}
use Rattle.log_stamps.specs.declared.rows.StampedRows.{StampedRows}
use Rattle.run_office.specs.Copies.{kept_stamped, same_stamped}
use Rattle.run_office.specs.declared.desks.DeskInput.{DeskInput}

-- a desk of the office
abbrev pub View : Type 0
View = DeskView (StampedEntry Filing) (StampedRows DeskRows)

-- what its rows say that weren't taken yet, with its stamp
abbrev pub left_of : StampedRows DeskRows → List (Result (Option (Kind × List ℤ)) RowError × Stamp)
left_of r = stamped_rows r.stamp (map asked r.rows.rows)

-- how rows of all kinds but books are read, each under a stamp
abbrev pub forms_under : Stamp → StampedRowFormat DeskRowFormat
forms_under stamp = record { forms = record {}; stamp = stamp }

-- what the rows of a text say, by how they are read
abbrev pub rows_under : StampedRowFormat DeskRowFormat → List ℕ → List (Result (Option (Kind × List ℤ)) RowError × Stamp)
rows_under forms text = stamped_rows forms.stamp (desk_rows text)

-- what is known of the inputs of desks: that of their sources, and each row has its desk's stamp
abbrev pub reads_of : {S : Type 0} → SourceGhosts S → Reads (DeskInput S) (StampedRowFormat DeskRowFormat)
reads_of {S} source = record {
  honest = λ (i : DeskInput S). source.honest i.input;
  left = λ (i : DeskInput S). source.left i.input;
  faults = λ (i : DeskInput S). source.faults i.input;
  forms = λ (i : DeskInput S). forms_under i.stamp;
}

-- what a desk of the office filed
abbrev pub FilesOwn : Snapshot (Filed (StampedEntry Filing)) → View → View → Type 0
FilesOwn = crew.FilesOwn office_semantics filing_asked kept_stamped (stamped_texts desk_texts) left_of

-- what the desks filed
abbrev pub HasFiled : Snapshot (Filed (StampedEntry Filing)) → Snapshot (Filed (StampedEntry Filing)) → List View → List View → Type 0
HasFiled = crew.HasFiled office_semantics filing_asked kept_stamped (stamped_texts desk_texts) left_of

-- what becomes of their rows once they were read
abbrev pub FilesAll : {D K : Type 0} → Ghosts D → SinkGhosts K → D → D → List View → K → K → ℕ → Type 0
FilesAll disk sink = crew.FilesAll office_scheme office_semantics filing_asked kept_stamped same_stamped (stamped_texts desk_texts) left_of disk sink

-- a run of many desks of the office, by how it ended
abbrev pub RanDesks : {D S K : Type 0} → Ghosts D → SourceGhosts S → SinkGhosts K → D → D
    → List (DeskInput S) → List (DeskInput S) → K → K → ℕ → Type 0
RanDesks disk source sink = crew.RanDesksOn office_scheme office_semantics filing_asked kept_stamped same_stamped
    (stamped_texts desk_texts) left_of rows_under (reads_of source) disk sink

-- the desks can file: there are 1 to 16, each source is honest and has not too many bytes, and the disk has an office that isn't damaged
abbrev pub CanFile : {S : Type 0} → SourceGhosts S → List (DeskInput S) → DiskState → Type 0
CanFile source = done.CanFile office_scheme (reads_of source)

-- no source's count of faults rose
abbrev pub NoneRose : {S : Type 0} → SourceGhosts S → List (DeskInput S) → List (DeskInput S) → Type 0
NoneRose source = done.NoneRose (reads_of source)
