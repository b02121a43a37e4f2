use Rattle.std.proofs.Common.{◌∷◌, []}
use Rattle.run_words.proofs.WordsLemmas.{reads_generate}
use Rattle.run_words.proofs.words.generate_request.Goals as goal

pub returns : goal.returns
returns c =
    reads_generate (c.args.seed.now ∷ c.args.students.now ∷ [])
    (record { seed = c.in_ok-number_in.field-0; students = c.in_ok-number_in-2.field-0; in_range = _ })
    (λ i. c.in_ok-number_in.ensures.spelled i ∷ c.in_ok-number_in-2.ensures.spelled i ∷ [])
