use Rattle.std.proofs.Common.{rules, Err, refl}
use Rattle.log_session.specs.Counted.{unopened, ended, stopped}
use Rattle.log_session.proofs.Behind.{untold_by}
use Rattle.log_session.proofs.counted.answer_counted.Goals as goal

pub returns-in-Err-clause-counted : goal.returns-in-Err-clause-counted
returns-in-Err-clause-counted g c = unopened c.in-Err.error c.in-Err.ensures.unopened refl

pub returns-in-Err-count_rows-clause-counted : goal.returns-in-Err-count_rows-clause-counted
returns-in-Err-count_rows-clause-counted g c =
    stopped c.in-Ok.kept.history c.in-Ok.kept.disk c.count_rows.new.tally c.in-Err-count_rows.stop c.in-Ok.ensures.opened
    (rw c.into_disk.ensures.disk c.in-Err-count_rows.ensures.counts) refl

pub returns-in-Ok-tell-clause-counted : goal.returns-in-Ok-tell-clause-counted
returns-in-Ok-tell-clause-counted g c =
    ended c.in-Ok.kept.history c.in-Ok.kept.disk c.count_rows.new.tally c.in-Ok-count_rows.error c.in-Ok.ensures.opened
    (rw c.into_disk-in-Ok-tell.ensures.disk c.in-Ok-count_rows.ensures.counts) (search rules)

pub returns-clause-counted : goal.returns-clause-counted
returns-clause-counted g c =
    untold_by c.in-Ok.kept.history c.in-Ok.kept.disk c.count_rows.new.tally c.in-Ok-count_rows.error c.in-Ok.ensures.opened
    (rw c.into_disk-in-Err-tell.ensures.disk c.in-Ok-count_rows.ensures.counts) (Err c.in-Err-tell.stop) c.in-Err-tell.stop refl
    c.in-Err-tell.ensures.cut c.in-Err-tell.ensures.untold c.in-Err-tell.ensures.no_disk
