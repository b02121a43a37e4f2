use Rattle.std.proofs.Common.{◌∷◌, [], ap, codes}
use Rattle.run_words.specs.declared.command.Command.TheVariants.{Book}
use Rattle.run_words.proofs.WordsLemmas.{reads_some}
use Rattle.run_words.proofs.words.book_command.Goals as goal

pub returns : goal.returns
returns c = reads_some (codes "book" ∷ c.args.number.now ∷ []) (Book (record { number = c.in_ok-number.number; in_range = _ })) (λ names. (ap (λ w. codes "book" ∷ w ∷ []) c.in_ok-number.ensures.spelled, tt))
