use Rattle.std.proofs.Common.{List, ◌++◌, ◌∙◌, ap, refl, subst, ℕ}
use Rattle.std.proofs.lemmas.List.{append-nil}
use Rattle.io_traits.specs.Whole.{IsCutShort}
use Rattle.log_session.specs.Reports.{unopened, told, unwritten, starved}
use Rattle.log_session.proofs.reporting.write_report.Goals as goal

pub returns-in-Err-clause-reports : goal.returns-in-Err-clause-reports
returns-in-Err-clause-reports g c = unopened c.in-Err.error c.in-Err.ensures.unopened refl

pub returns-in-Err-write-clause-reports : goal.returns-in-Err-write-clause-reports
returns-in-Err-write-clause-reports g c =
    let kept = c.in-Ok.kept in
    rw c.into_disk.ensures.disk (starved kept.history
    c.in-Ok.ensures.opened
    refl)

pub returns-in-Ok-write_whole-clause-reports : goal.returns-in-Ok-write_whole-clause-reports
returns-in-Ok-write_whole-clause-reports g c =
    let kept = c.in-Ok.kept in
    let text = c.deref.ensures.value ∙ c.in-Ok-write.ensures ∙ ap (g.T.Report.text c.args.report.now) c.machine.ensures in
    rw c.into_disk-disk.ensures.disk (told kept.history
    c.in-Ok.ensures.opened
    (λ honest. c.in-Ok-write_whole.ensures.written honest ∙ ap (λ (l : List ℕ). g.K.Sink.text c.args.out.now ++ l) text))

pub returns-clause-reports : goal.returns-clause-reports
returns-clause-reports g c =
    let kept = c.in-Ok.kept in
    let text = c.deref.ensures.value ∙ c.in-Ok-write.ensures ∙ ap (g.T.Report.text c.args.report.now) c.machine.ensures in
    rw c.into_disk-disk.ensures.disk (unwritten kept.history
    c.in-Ok.ensures.opened
    (λ honest. rw append-nil (subst (λ (l : List ℕ). IsCutShort l (g.K.Sink.text c.args.out.now) (g.K.Sink.text c.write_whole.new.sink)) text (c.in-Err-write_whole.ensures.failed honest))))
