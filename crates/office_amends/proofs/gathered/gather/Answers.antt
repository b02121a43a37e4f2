use Rattle.std.proofs.Common.{refl}
use Rattle.csv.specs.Records.{fields_of}
use Rattle.office_amends.proofs.Gathering.{error_more}
use Rattle.office_amends.proofs.gathered.gather.Goals as goal

pub returns-in-Ok-clause-gathered : goal.returns-in-Ok-clause-gathered
returns-in-Ok-clause-gathered c rows has at = c.fit.ensures.gathered rows (fields_of c.args.fields.now) has at (rw c.in-Ok.is at c.in_ok-said.ensures)

pub returns-in_ok-put_error-in-Err-clause-gathered : goal.returns-in_ok-put_error-in-Err-clause-gathered
returns-in_ok-put_error-in-Err-clause-gathered c rows has at =
    error_more c.args.old.now.history c.args.number rows (fields_of c.args.fields.now) c.args.gathered.now _ has c.args.row c.in-Err.error at
    (rw c.in-Err.is at c.in_ok-said.ensures) refl refl refl c.in_ok-put_error-in-Err.ensures.ok
