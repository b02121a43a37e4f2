use Rattle.office_export.specs.Exports.{lines_of}
use Rattle.audit.proofs.Against.{bad_by}
use Rattle.audit.proofs.auditor.audit.Goals as goal

pub returns-in-Some : goal.returns-in-Some
returns-in-Some g c =
    let finds = rw c.in-Some.is at c.in_ok-line.ensures in
    bad_by g.L.AuditedList.most (lines_of c.args.text.now) c.args.note c.in_ok-line.line c.in-Some.cause finds
