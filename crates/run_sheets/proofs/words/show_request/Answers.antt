use Rattle.std.proofs.Common.{◌∷◌, [], codes}
use Rattle.run_sheets.specs.declared.request.SheetRequest.TheVariants.{Book}
use Rattle.run_sheets.proofs.RowLemmas.{reads_request}
use Rattle.run_sheets.proofs.words.show_request.Goals as goal

pub returns : goal.returns
returns c = reads_request (codes "book" ∷ codes "show" ∷ c.args.year.now ∷ []) (Book (record { year = c.in_ok-number_in.field-0; in_range = _ })) (λ i. codes "book" ∷ codes "show" ∷ c.in_ok-number_in.ensures.spelled i ∷ [])
