use Rattle.std.proofs.Common.{◌∷◌, [], codes}
use Rattle.run_sheets.specs.declared.request.SheetRequest.TheVariants.{Student}
use Rattle.run_sheets.proofs.RowLemmas.{reads_request}
use Rattle.run_sheets.proofs.words.student_request.Goals as goal

pub returns : goal.returns
returns c = reads_request (codes "student" ∷ c.args.student.now ∷ []) (Student (record { student = c.in_ok-number_in.field-0; in_range = _ })) (λ i. codes "student" ∷ c.in_ok-number_in.ensures.spelled i ∷ [])
