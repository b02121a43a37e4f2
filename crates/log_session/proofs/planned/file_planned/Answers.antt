use Rattle.std.proofs.Common.{◌≡◌, Err, rules}
use Rattle.std.proofs.lemmas.List.{append-nil}
use Rattle.log_session.specs.Planned.{closed, stopped, unclosed}
use Rattle.log_session.proofs.planned.file_planned.Goals as goal

pub returns-in_err-file_rows-clause-closes : goal.returns-in_err-file_rows-clause-closes
returns-in_err-file_rows-clause-closes g c =
    let same : c.from_residual.result ≡ Err c.in_err-file_rows.field-0.0 = search rules in
    rw same (stopped c.file_rows.new.kept.history c.in_err-file_rows.field-0.0 c.in_err-file_rows.ensures.files)

pub returns-in-Ok-clause-closes : goal.returns-in-Ok-clause-closes
returns-in-Ok-clause-closes g c = closed c.file_rows.new.kept.history (g.K.Sink.text c.file_rows.new.out) c.in_ok-file_rows.ensures.files (λ honest. (search rules))

pub returns-in-Err-clause-closes : goal.returns-in-Err-clause-closes
returns-in-Err-clause-closes g c = unclosed c.file_rows.new.kept.history (g.K.Sink.text c.file_rows.new.out) c.in_ok-file_rows.ensures.files (λ honest. rw append-nil (search rules))
