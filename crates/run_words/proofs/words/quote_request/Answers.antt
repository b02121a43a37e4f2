use Rattle.std.proofs.Common.{◌∷◌, []}
use Rattle.run_words.proofs.WordsLemmas.{reads_request}
use Rattle.run_words.proofs.words.quote_request.Goals as goal

pub returns : goal.returns
returns c =
    reads_request (c.args.school.now ∷ c.args.student.now ∷ c.args.year.now ∷ c.args.term.now ∷ [])
    (record { school = c.in_ok-number_in.field-0; student = c.in_ok-number_in-2.field-0; year = c.in_ok-number_in-3.field-0; term = c.in_ok-number_in-4.field-0; in_range = _ })
    (λ i. c.in_ok-number_in.ensures.spelled i ∷ c.in_ok-number_in-2.ensures.spelled i ∷ c.in_ok-number_in-3.ensures.spelled i ∷ c.in_ok-number_in-4.ensures.spelled i ∷ [])
