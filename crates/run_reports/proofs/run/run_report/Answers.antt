use Rattle.std.proofs.Common.{◌≡◌, ◌∙◌, ◌++◌, ap, None, Some, Err, arith, refl}
use Rattle.io_traits.proofs.Moments.{started}
use Rattle.log_machine.proofs.Histories.{recovers_once}
use Rattle.log_machine.specs.Recovers.{Recovers}
use Rattle.log_runs.specs.Counts.{HasCause, written}
use Rattle.log_runs.specs.declared.stop.RunStop.TheVariants.{Usage}
use Rattle.log_runs.proofs.EndLaws.{ends_honest, ends_later, sink_moved, stood}
use Rattle.log_runs.proofs.Shown.{ends_done, ends_show}
use Rattle.run_reports.specs.Runs.{edges, text_of, unasked}
use Rattle.run_reports.proofs.Ran.{caused_by, did_by, excused_by, moments_by, no_text, one_text, shown_by, still}
use Rattle.run_reports.proofs.run.run_report.Given.{Over}
use Rattle.run_reports.proofs.run.run_report.Goals as goal

-- ---- where a text is asked for
asked_is : (g : Over) (c : goal.After-end g) → text_of g.T.Report.text c.args.report ≡ Some (g.T.Report.text c.in-Some.report.now)
asked_is g c = ap (text_of g.T.Report.text) c.in-Some.is

cause : (g : Over) (c : goal.After-end g)
    → HasCause (edges (g.K.Sink.faults c.args.out.now, g.K.Sink.faults c.end.new.out) (g.D.Disk.faults c.args.disk, g.D.Disk.faults c.write_text-ended.result.1)) c.write_text-ended.result.0 c.end.result
cause g c =
    let done = c.write_text-ended in
    caused_by g.K.Sink (g.D.Disk.faults c.args.disk, g.D.Disk.faults done.result.1) c.args.out.now done.new.out c.end.new.out done.result.0 c.end.result
    done.ensures.source done.ensures.disk done.ensures.sink_later done.ensures.sink c.end.ensures

pub returns-in-Some-clause-shown : goal.returns-in-Some-clause-shown
returns-in-Some-clause-shown g c text past asked zero honest tells each =
    let done = c.write_text-ended in
    let (ended, is, reports) = done.ensures.reports in
    shown_by g.D.Disk g.R.StateMachine.scheme (λ file one other first second. recovers_once g.R.StateMachine.scheme g.met.R.StateMachine.alone file one other first second) g.met.D.Disk.reads_as_image (g.T.Report.text c.in-Some.report.now)
    c.args.disk done.result.1 past honest each g.K.Sink c.args.out.now done.new.out c.end.new.out ended done.result.0 c.end.result is reports
    c.end.ensures zero tells ∙ ap (λ told. g.K.Sink.text c.args.out.now ++ told past) (one_text (text_of g.T.Report.text c.args.report) _ text (asked_is g c) asked)

pub returns-in-Some-clause-keeps : goal.returns-in-Some-clause-keeps
returns-in-Some-clause-keeps g c past honest each =
    let done = c.write_text-ended in
    let (ended, is, reports) = done.ensures.reports in
    moments_by g.D.Disk g.R.StateMachine.scheme (λ file one other first second. recovers_once g.R.StateMachine.scheme g.met.R.StateMachine.alone file one other first second) g.met.D.Disk.reads_as_image (g.T.Report.text c.in-Some.report.now)
    c.args.disk done.result.1 past honest each (written g.K.Sink c.args.out.now done.new.out) ended reports

pub returns-in-Some-clause-one : goal.returns-in-Some-clause-one
returns-in-Some-clause-one g c file past other first second = recovers_once g.R.StateMachine.scheme g.met.R.StateMachine.alone file past other first second

pub returns-in-Some-clause-ran : goal.returns-in-Some-clause-ran
returns-in-Some-clause-ran g c =
    let done = c.write_text-ended in
    let (ended, is, reports) = done.ensures.reports in
    did_by g.D.Disk g.K.Sink g.R.StateMachine.scheme
    (edges (g.K.Sink.faults c.args.out.now, g.K.Sink.faults c.end.new.out) (g.D.Disk.faults c.args.disk, g.D.Disk.faults done.result.1)) (text_of g.T.Report.text c.args.report)
    c.args.disk done.result.1 c.args.out.now done.new.out c.end.new.out (g.T.Report.text c.in-Some.report.now) ended done.result.0 c.end.result (asked_is g c) is reports done.ensures.sink_honest (cause g c) c.end.ensures

pub returns-in-Some-clause-shows : goal.returns-in-Some-clause-shows
returns-in-Some-clause-shows g c = ends_show g.K.Sink c.write_text-ended.new.out c.end.new.out _ c.write_text-ended.result.0 c.end.result (cause g c) c.end.ensures

pub returns-in-Some-clause-complete : goal.returns-in-Some-clause-complete
returns-in-Some-clause-complete g c text asked can no_sink no_disk =
    let done = c.write_text-ended in
    let (ended, is, reports) = done.ensures.reports in
    ends_done g.K.Sink (edges (g.K.Sink.faults c.args.out.now, g.K.Sink.faults c.end.new.out) (g.D.Disk.faults c.args.disk, g.D.Disk.faults done.result.1))
    done.new.out c.end.new.out done.result.0 c.end.result (cause g c) c.end.ensures
    (excused_by g.D.Disk g.R.StateMachine.scheme (g.T.Report.text c.in-Some.report.now) c.args.disk done.result.1 (written g.K.Sink c.args.out.now done.new.out) ended done.result.0 is reports can) still no_sink no_disk

pub returns-in-Some-clause-sink_later : goal.returns-in-Some-clause-sink_later
returns-in-Some-clause-sink_later g c =
    let before = c.write_text-ended.ensures.sink_later in
    let behind = ends_later g.K.Sink c.write_text-ended.new.out c.end.new.out c.write_text-ended.result.0 c.end.result c.end.ensures in
    omega (arith, before, behind)

pub returns-in-Some-clause-sink_honest : goal.returns-in-Some-clause-sink_honest
returns-in-Some-clause-sink_honest g c =
    ends_honest g.K.Sink c.write_text-ended.new.out c.end.new.out c.write_text-ended.result.0 c.end.result c.end.ensures ∙ c.write_text-ended.ensures.sink_honest

-- ---- where none is
none_is : (g : Over) (c : goal.After-end-in-None g) → text_of g.T.Report.text c.args.report ≡ None
none_is g c = ap (text_of g.T.Report.text) c.in-None.is

no_cause : (g : Over) (c : goal.After-end-in-None g)
    → HasCause (edges (g.K.Sink.faults c.args.out.now, g.K.Sink.faults c.end-in-None.new.out) (g.D.Disk.faults c.args.disk, g.D.Disk.faults c.args.disk)) (Err Usage) c.end-in-None.result
no_cause g c = record {
  source = stood _ _ refl;
  disk = stood _ _ refl;
  sink = sink_moved g.K.Sink c.args.out.now c.end-in-None.new.out (Err Usage) c.end-in-None.result (g.K.Sink.faults c.args.out.now) (omega arith) (stood _ _ refl) c.end-in-None.ensures;
}

pub returns-in-None-clause-shown : goal.returns-in-None-clause-shown
returns-in-None-clause-shown g c text past asked zero honest tells each = absurd (no_text (text_of g.T.Report.text c.args.report) text (none_is g c) asked)

pub returns-in-None-clause-keeps : goal.returns-in-None-clause-keeps
returns-in-None-clause-keeps g c past honest each =
    started (g.D.Disk.tells c.args.disk) (λ file. Recovers g.R.StateMachine.scheme file past) (λ file since. each file (g.met.D.Disk.only_now c.args.disk file honest since))

pub returns-in-None-clause-one : goal.returns-in-None-clause-one
returns-in-None-clause-one g c file past other first second = recovers_once g.R.StateMachine.scheme g.met.R.StateMachine.alone file past other first second

pub returns-in-None-clause-ran : goal.returns-in-None-clause-ran
returns-in-None-clause-ran g c = unasked c.end-in-None.result (none_is g c) refl (no_cause g c) c.end-in-None.ensures

pub returns-in-None-clause-shows : goal.returns-in-None-clause-shows
returns-in-None-clause-shows g c = ends_show g.K.Sink c.args.out.now c.end-in-None.new.out _ (Err Usage) c.end-in-None.result (no_cause g c) c.end-in-None.ensures

pub returns-in-None-clause-complete : goal.returns-in-None-clause-complete
returns-in-None-clause-complete g c text asked can no_sink no_disk = absurd (no_text (text_of g.T.Report.text c.args.report) text (none_is g c) asked)

pub returns-in-None-clause-sink_later : goal.returns-in-None-clause-sink_later
returns-in-None-clause-sink_later g c = ends_later g.K.Sink c.args.out.now c.end-in-None.new.out (Err Usage) c.end-in-None.result c.end-in-None.ensures

pub returns-in-None-clause-sink_honest : goal.returns-in-None-clause-sink_honest
returns-in-None-clause-sink_honest g c = ends_honest g.K.Sink c.args.out.now c.end-in-None.new.out (Err Usage) c.end-in-None.result c.end-in-None.ensures
