use Rattle.std.proofs.Common.{◌∷◌, [], codes}
use Rattle.run_sheets.specs.declared.request.SheetRequest.TheVariants.{Withdrawal}
use Rattle.run_sheets.proofs.RowLemmas.{reads_request}
use Rattle.run_sheets.proofs.words.withdrawal_request.Goals as goal

pub returns : goal.returns
returns c =
    reads_request (codes "withdrawal" ∷ c.args.school.now ∷ c.args.student.now ∷ c.args.year.now ∷ c.args.term.now ∷ [])
    (Withdrawal (record { school = c.in_ok-number_in.field-0; student = c.in_ok-number_in-2.field-0; year = c.in_ok-number_in-3.field-0; term = c.in_ok-number_in-4.field-0; in_range = _ }))
    (λ i. codes "withdrawal" ∷ c.in_ok-number_in.ensures.spelled i ∷ c.in_ok-number_in-2.ensures.spelled i ∷ c.in_ok-number_in-3.ensures.spelled i ∷ c.in_ok-number_in-4.ensures.spelled i ∷ [])
