use Rattle.std.proofs.Common.{◌≡◌, ◌∙◌, ◌++◌, ap, None, Some, Global, map, refl, string_bytes, sym}
use Rattle.office_history.proofs.LegalWithin.{legal_within}
use Rattle.log_stamps.specs.Entries.{entries}
use Rattle.run_reports.specs.Runs.{edges}
use Rattle.run_sheets.specs.Texts.{sheet_text}
use Rattle.run_sheets.specs.Words.{sheet_words}
use Rattle.run_sheets.specs.declared.request.SheetRow.{SheetRow}
use Rattle.run_sheets.proofs.Ran.{did_by, undone_by}
use Rattle.run_sheets.proofs.run.run_sheets.Given.{Over}
use Rattle.run_sheets.proofs.run.run_sheets.Goals as goal

-- ---- where the words are a row
-- they are the row that was read
words_are : (g : Over) (c : goal.After-run_report g) → map (string_bytes {Z = Global}) c.args.words.now.items ≡ sheet_words c.in-Some.row
words_are g c = ap (map (string_bytes {Z = Global})) (sym c.as_slice.ensures.value) ∙ (c.row_of.ensures c.in-Some.row).0 c.in-Some.is

-- and that of no other
row_is : (g : Over) (c : goal.After-run_report g) (row : SheetRow) → map (string_bytes {Z = Global}) c.args.words.now.items ≡ sheet_words row → c.in-Some.row ≡ row
row_is g c row are =
    let read : c.row_of.result ≡ Some row = (c.row_of.ensures row).1 (ap (map (string_bytes {Z = Global})) c.as_slice.ensures.value ∙ are) in
    let same : Some c.in-Some.row ≡ Some row = sym c.in-Some.is ∙ read in
    cc

pub returns-in-Some-clause-shown : goal.returns-in-Some-clause-shown
returns-in-Some-clause-shown g c row past are zero honest tells each =
    c.run_report.ensures.shown (sheet_text c.in-Some.row) past refl zero honest tells each
    ∙ ap (λ (r : SheetRow). g.K.Sink.text c.args.out.now ++ sheet_text r past) (row_is g c row are)

pub returns-in-Some-clause-within : goal.returns-in-Some-clause-within
returns-in-Some-clause-within g c file history is = legal_within (entries history) is.legal

pub returns-in-Some-clause-ran : goal.returns-in-Some-clause-ran
returns-in-Some-clause-ran g c =
    did_by g.D.Disk g.K.Sink
    (edges (g.K.Sink.faults c.args.out.now, g.K.Sink.faults c.run_report.new.out) (g.D.Disk.faults c.args.disk, g.D.Disk.faults c.run_report.result.1)) (map (string_bytes {Z = Global}) c.args.words.now.items)
    c.args.disk c.run_report.result.1 c.args.out.now c.run_report.new.out _ c.in-Some.row c.run_report.result.0 (words_are g c) refl c.run_report.ensures.ran

pub returns-in-Some-clause-complete : goal.returns-in-Some-clause-complete
returns-in-Some-clause-complete g c row are can no_sink no_disk = c.run_report.ensures.complete (sheet_text c.in-Some.row) refl can no_sink no_disk

-- ---- where they are none
not_row : (g : Over) (c : goal.After-run_report-in-None g) (row : SheetRow) → map (string_bytes {Z = Global}) c.args.words.now.items ≡ sheet_words row → ⊥
not_row g c row are =
    let read : c.row_of.result ≡ Some row = (c.row_of.ensures row).1 (ap (map (string_bytes {Z = Global})) c.as_slice.ensures.value ∙ are) in
    let bad : None ≡ Some row = sym c.in-None.is ∙ read in
    cc

pub returns-in-None-clause-shown : goal.returns-in-None-clause-shown
returns-in-None-clause-shown g c row past are zero honest tells each = absurd (not_row g c row are)

pub returns-in-None-clause-within : goal.returns-in-None-clause-within
returns-in-None-clause-within g c file history is = legal_within (entries history) is.legal

pub returns-in-None-clause-ran : goal.returns-in-None-clause-ran
returns-in-None-clause-ran g c =
    undone_by g.D.Disk g.K.Sink
    (edges (g.K.Sink.faults c.args.out.now, g.K.Sink.faults c.run_report-in-None.new.out) (g.D.Disk.faults c.args.disk, g.D.Disk.faults c.run_report-in-None.result.1)) (map (string_bytes {Z = Global}) c.args.words.now.items)
    c.args.disk c.run_report-in-None.result.1 c.args.out.now c.run_report-in-None.new.out _ c.run_report-in-None.result.0 (not_row g c) refl c.run_report-in-None.ensures.ran

pub returns-in-None-clause-complete : goal.returns-in-None-clause-complete
returns-in-None-clause-complete g c row are can no_sink no_disk = absurd (not_row g c row are)
