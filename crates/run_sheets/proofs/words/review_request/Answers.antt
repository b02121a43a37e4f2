use Rattle.std.proofs.Common.{◌∷◌, [], codes}
use Rattle.run_sheets.specs.declared.request.SheetRequest.TheVariants.{Review}
use Rattle.run_sheets.proofs.RowLemmas.{reads_request}
use Rattle.run_sheets.proofs.words.review_request.Goals as goal

pub returns : goal.returns
returns c =
    reads_request (codes "review" ∷ c.args.student.now ∷ c.args.year.now ∷ []) (Review (record { student = c.in_ok-number_in.field-0; year = c.in_ok-number_in-2.field-0; in_range = _ }))
    (λ i. codes "review" ∷ c.in_ok-number_in.ensures.spelled i ∷ c.in_ok-number_in-2.ensures.spelled i ∷ [])
