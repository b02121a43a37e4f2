use Rattle.std.proofs.Common.{◌∷◌, [], codes, refl}
use Rattle.run_sheets.specs.declared.request.SheetRequest.TheVariants.{Due}
use Rattle.run_sheets.proofs.RowLemmas.{reads_request}
use Rattle.run_sheets.proofs.words.due_request.Goals as goal

pub returns : goal.returns
returns c =
    let day = c.in_ok-day_of.field-0 in
    reads_request (codes "due" ∷ c.args.day.now ∷ c.args.school.now ∷ []) (Due (record { day = day; school = c.in_ok-number_in.field-0; in_range = _ }))
    (λ i. codes "due" ∷ (c.in_ok-day_of.ensures.value day c.in_ok-day_of.ensures.in_range).0 refl i ∷ c.in_ok-number_in.ensures.spelled i ∷ [])
