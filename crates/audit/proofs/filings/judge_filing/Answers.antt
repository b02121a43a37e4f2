use Rattle.std.proofs.Common.{refl}
use Rattle.audit.proofs.Taken.{kept_in_place, taken_bad, taken_good}
use Rattle.audit.proofs.filings.judge_filing.Goals as goal

pub returns-in-Some : goal.returns-in-Some
returns-in-Some g c = λ told keeps.
    let place = kept_in_place g.L.AuditedList.most g.L.AuditedList.filings c.args.lines.now told keeps _ c.requires.before_standings c.requires.before_end c.requires.form in
    taken_bad g.L.AuditedList.most g.L.AuditedList.filings c.args.lines.now told keeps c.take.new.self c.args.stamp c.args.filing c.in-Some.cause place c.requires.room c.requires.is_stamp c.requires.is_filing
    (rw c.in-Some.is at c.in_ok-cause.ensures)

pub returns : goal.returns
returns g c = λ told keeps.
    let place = kept_in_place g.L.AuditedList.most g.L.AuditedList.filings c.args.lines.now told keeps _ c.requires.before_standings c.requires.before_end c.requires.form in
    taken_good g.L.AuditedList.most g.L.AuditedList.filings c.args.lines.now told keeps _ c.args.stamp c.args.filing place c.requires.room c.requires.is_stamp c.requires.is_filing
    (rw c.in_default.is at c.in_ok-cause.ensures) c.in_ok-push.ensures.items c.requires.before_standings refl refl c.requires.before_end refl
