use Rattle.std.proofs.Common.{◌∷◌, [], ◌++◌, ◌∙◌, ap, List, ℤ}
use Rattle.format_bytes.proofs.Applications.{flag_word}
use Rattle.format_bytes.proofs.application.put_standing.Goals as goal

pub returns : goal.returns
returns c =
    record { added = c.add_numbers.ensures.added ∙ ap (λ (zs : List ℤ). c.args.numbers.now.items ++ zs) (λ i. flag_word c.number_of_flag-married.result c.args.application.now.married c.number_of_flag-married.ensures.value i ∷ flag_word c.number_of_flag-graduate.result c.args.application.now.graduate c.number_of_flag-graduate.ensures.value i ∷ flag_word c.number_of_flag-bachelor.result c.args.application.now.bachelor c.number_of_flag-bachelor.ensures.value i ∷ flag_word c.number_of_flag-veteran.result c.args.application.now.veteran c.number_of_flag-veteran.ensures.value i ∷ flag_word c.number_of_flag-dependents.result c.args.application.now.dependents c.number_of_flag-dependents.ensures.value i ∷ []) }
