use Rattle.std.proofs.Common.{◌∙◌, reverse, sym}
use Rattle.std.proofs.lemmas.List.{length-reverse}
use Rattle.office_sheets.proofs.LedgerLaws.{each_about, each_told}
use Rattle.office_sheets.proofs.laws.rows_of_student.Goals as goal

pub returns-clause-about : goal.returns-clause-about
returns-clause-about c student = each_about student (reverse c.args.history.now) (reverse c.args.stamps.now)

pub returns-clause-told : goal.returns-clause-told
returns-clause-told c student position =
    each_told student (reverse c.args.history.now) (reverse c.args.stamps.now) (length-reverse c.args.stamps.now ∙ c.requires ∙ sym (length-reverse c.args.history.now)) position
