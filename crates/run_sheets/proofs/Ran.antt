-- What a run does that writes a sheet, by what a run does that writes a text.
use Rattle.std.proofs.Common.{◌≡◌, ◌∙◌, ℕ, List, Option, Some, None, subst, sym}
use Rattle.io_traits.specs.declared.sink.Sink.{Ghosts as SinkGhosts}
use Rattle.io_traits.specs.declared.disk.Disk.{Ghosts}
use Rattle.aid_filings.specs.declared.filing.Filing.{Filing}
use Rattle.log_runs.specs.Counts.{Counts, written}
use Rattle.log_session.specs.Reports.{Reports}
use Rattle.log_stamps.specs.declared.entry.StampedEntry.{StampedEntry}
use Rattle.office_log.specs.Scheme.{office_scheme}
use Rattle.run_reports.specs.Runs.{RanReport, did as told, unasked}
use Rattle.run_sheets.specs.Runs.{RanSheets, did, no_row}
use Rattle.run_sheets.specs.Texts.{sheet_text}
use Rattle.run_sheets.specs.Words.{sheet_words}
use Rattle.run_sheets.specs.declared.request.SheetRow.{SheetRow}

-- one text is asked for at most
one_text : {A : Type 0} (asked : Option A) (text other : A) → asked ≡ Some text → asked ≡ Some other → text ≡ other
one_text asked text other is also = let same : Some text ≡ Some other = sym is ∙ also in cc

no_text : {A : Type 0} (asked : Option A) (text : A) → asked ≡ None → asked ≡ Some text → ⊥
no_text asked text none is = let bad : None ≡ Some text = sym none ∙ is in cc

module _ {D K : Type 0} (disk : Ghosts D) (sink : SinkGhosts K) (counts : Counts) (words : List (List ℕ)) (old new : D) (out out' : K) where
  -- words that are a row
  pub did_by : (asked : Option (List (StampedEntry Filing) → List ℕ)) (row : SheetRow) (status : ℕ) → words ≡ sheet_words row → asked ≡ Some (sheet_text row)
      → RanReport disk sink office_scheme counts asked old new out out' status → RanSheets disk sink counts words old new out out' status
  did_by asked row status are is (unasked _ none same cause ends) = absurd (no_text asked (sheet_text row) none is)
  did_by asked row status are is (told text at ended _ also reports honest cause ends) =
      did row at ended status are
      (subst (λ (t : List (StampedEntry Filing) → List ℕ). Reports disk office_scheme t old new (written sink out at) ended) (one_text asked text (sheet_text row) also is) reports)
      honest cause ends

  -- words that are none
  pub undone_by : (asked : Option (List (StampedEntry Filing) → List ℕ)) (status : ℕ) → ((row : SheetRow) → words ≡ sheet_words row → ⊥) → asked ≡ None
      → RanReport disk sink office_scheme counts asked old new out out' status → RanSheets disk sink counts words old new out out' status
  undone_by asked status not none (unasked _ is same cause ends) = no_row status not same cause ends
  undone_by asked status not none (told text at ended _ also reports honest cause ends) = absurd (no_text asked text none also)
