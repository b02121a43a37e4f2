-- What a run of many desks over a list under rules does.
use Rattle.std.specs.Prelude.{ℕ, ℤ, List, Result, Some}
use Rattle.io_traits.specs.declared.source.Source.{Ghosts as SourceGhosts}
use Rattle.io_traits.specs.declared.sink.Sink.{Ghosts as SinkGhosts}
use Rattle.io_traits.specs.declared.disk.Disk.{Ghosts}
use Rattle.format_rows.specs.declared.error.RowError.{RowError}
use Rattle.log_desk_runs.specs.RanDesksOn as crew
use Rattle.log_desk_runs.specs.Reads.{Reads}
use Rattle.log_rules.specs.Lines.{table_texts}
use Rattle.log_rules.specs.declared.forms.TableRowFormat.{TableRowFormat}
use Rattle.log_rules.specs.declared.forms.TableRows.{TableRows}
use Rattle.log_rules.specs.Ruled.{semantics_of, scheme_of}
use Rattle.log_rules.specs.Ruling.{Ruling}
use Rattle.run_rules.specs.declared.desks.RuleDeskInput.{RuleDeskInput}

-- what is known of the inputs of desks: that of their sources
abbrev pub reads_of : {S R : Type 0} → SourceGhosts S → Reads (RuleDeskInput S) (TableRowFormat R)
reads_of {S} source = record {
  honest = λ (i : RuleDeskInput S). source.honest i.input;
  left = λ (i : RuleDeskInput S). source.left i.input;
  faults = λ (i : RuleDeskInput S). source.faults i.input;
  forms = λ (i : RuleDeskInput S). record { of = record {} };
}

-- what the rows of a desk say that weren't taken yet
abbrev pub left_of : {R Outcome Index Entry : Type 0} → TableRows R Outcome Index Entry → List (Result (ℕ × List ℤ) RowError)
left_of r = r.rows

-- a run of many desks under the rules of a marker with an index, by how it ended
abbrev pub RanRuledDesks : {D S K Entry Outcome : Type 0} → (R Index : Type 0) → Ruling Entry Outcome → (Entry → ℕ) → (Entry → List ℤ) → (Outcome → List ℕ) → (List ℕ → List (Result (ℕ × List ℤ) RowError))
    → Ghosts D → SourceGhosts S → SinkGhosts K → D → D → List (RuleDeskInput S) → List (RuleDeskInput S) → K → K → ℕ → Type 0
RanRuledDesks {Entry = Entry} {Outcome = Outcome} R Index ruling code_of numbers_of text rows_of disk source sink =
    crew.RanDesksOn (scheme_of ruling) (semantics_of ruling) (λ (operation : Entry). Some operation) (λ (operation : Entry). Some operation) ruling.is_same (table_texts code_of numbers_of text)
    (left_of {R = R} {Outcome = Outcome} {Index = Index} {Entry = Entry}) (λ (forms : TableRowFormat R) t. rows_of t) (reads_of {R = R} source) disk sink
