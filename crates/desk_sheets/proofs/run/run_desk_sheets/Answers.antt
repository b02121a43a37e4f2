use Rattle.std.proofs.Common.{◌≡◌, ◌∙◌, ◌++◌, ap, Some, Global, map, refl, string_bytes, subst, sym}
use Rattle.log_rules.specs.Ruled.{scheme_of}
use Rattle.run_reports.specs.Runs.{RanReport, edges}
use Rattle.desk_sheets.specs.Runs.{asked_by}
use Rattle.desk_sheets.specs.Sheets.{desk_text}
use Rattle.desk_sheets.specs.Words.{row_in}
use Rattle.desk_sheets.specs.declared.request.DeskSheetRow.{DeskSheetRow}
use Rattle.desk_sheets.proofs.run.run_desk_sheets.Given.{Over}
use Rattle.desk_sheets.proofs.run.run_desk_sheets.Goals as goal

-- the words are the row that was read
row_read : (g : Over) (c : goal.After-run_report g) → row_in (map (string_bytes {Z = Global}) c.args.words.now.items) ≡ Some c.in-Some.row
row_read g c = ap (λ ws. row_in (map (string_bytes {Z = Global}) ws)) (sym c.as_slice.ensures.value) ∙ (sym c.row_of.ensures ∙ c.in-Some.is)

row_is : (g : Over) (c : goal.After-run_report g) (row : DeskSheetRow) → row_in (map (string_bytes {Z = Global}) c.args.words.now.items) ≡ Some row → c.in-Some.row ≡ row
row_is g c row are = let same : Some c.in-Some.row ≡ Some row = sym (row_read g c) ∙ are in cc

pub returns-in-Some-clause-shown : goal.returns-in-Some-clause-shown
returns-in-Some-clause-shown g c row past are zero honest tells each =
    let scheme = scheme_of g.R.OfficeRules.ruling in
    c.run_report.ensures.shown (desk_text scheme c.in-Some.row) past refl zero honest tells each
    ∙ ap (λ (r : DeskSheetRow). g.K.Sink.text c.args.out.now ++ desk_text scheme r past) (row_is g c row are)

pub returns-in-Some-clause-ran : goal.returns-in-Some-clause-ran
returns-in-Some-clause-ran g c =
    let scheme = scheme_of g.R.OfficeRules.ruling in
    subst (λ asked. RanReport g.D.Disk g.K.Sink scheme (edges (g.K.Sink.faults c.args.out.now, g.K.Sink.faults c.run_report.new.out) (g.D.Disk.faults c.args.disk, g.D.Disk.faults c.run_report.result.1))
    asked c.args.disk c.run_report.result.1 c.args.out.now c.run_report.new.out c.run_report.result.0)
    (sym (ap (asked_by scheme) (row_read g c))) c.run_report.ensures.ran

pub returns-in-None-clause-ran : goal.returns-in-None-clause-ran
returns-in-None-clause-ran g c =
    let scheme = scheme_of g.R.OfficeRules.ruling in
    let read = ap (λ ws. row_in (map (string_bytes {Z = Global}) ws)) (sym c.as_slice.ensures.value) ∙ (sym c.row_of.ensures ∙ c.in-None.is) in
    subst (λ asked. RanReport g.D.Disk g.K.Sink scheme (edges (g.K.Sink.faults c.args.out.now, g.K.Sink.faults c.run_report-in-None.new.out) (g.D.Disk.faults c.args.disk, g.D.Disk.faults c.run_report-in-None.result.1))
    asked c.args.disk c.run_report-in-None.result.1 c.args.out.now c.run_report-in-None.new.out c.run_report-in-None.result.0)
    (sym (ap (asked_by scheme) read)) c.run_report-in-None.ensures.ran
