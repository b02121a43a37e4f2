use Rattle.std.proofs.Common.{◌≡◌, true, arith}
use Rattle.std.proofs.lemmas.Grind.{common_steps}
use Rattle.std.proofs.lemmas.Result.{on_ok_weaker}
use Rattle.aid_filings.specs.Students.{student_of}
use Rattle.office_sheets.specs.Ledgers.{is_student}
use Rattle.office_sheets.proofs.LedgerPass.{rows_then}
use Rattle.office_sheets.proofs.ledger.pass.Goals as goal

pub returns-clause-rows : goal.returns-clause-rows
returns-clause-rows c =
    let f = c.args.filing.now in
    let about : is_student c.args.student (student_of f.what) ≡ true = grind (arith, common_steps, c.is_about.ensures, c.if-not-is_about.false) in
    on_ok_weaker c.put_rows.result
    (λ more. rows_then c.args.student c.args.past.now.history c.grow.new.office.history c.args.stamp.now f c.in_ok-outcome.outcome
    c.taken_in-before.result c.taken_in.result c.minus-returned.result c.args.rows.now.items _
    about c.in_ok-outcome.ensures.history c.in_ok-outcome.ensures.outcome c.taken_in-before.ensures c.taken_in.ensures c.minus-returned.ensures more)
    c.put_rows.ensures
