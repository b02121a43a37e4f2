use Rattle.std.proofs.Common.{◌≡◌, ◌∷◌, [], ◌++◌, ◌∙◌, ap, List, ℤ, pos, rules}
use Rattle.format_bytes.proofs.Applications.{flag_word, word}
use Rattle.format_bytes.proofs.application.put_parents.Goals as goal

pub returns : goal.returns
returns c =
    let age : word c.from.result ≡ pos c.args.application.now.parent_age = search rules in
    record { added = c.add_numbers.ensures.added ∙ ap (λ (zs : List ℤ). c.args.numbers.now.items ++ zs) (λ i. flag_word c.number_of_flag-married.result c.args.application.now.parents_married c.number_of_flag-married.ensures.value i ∷ flag_word c.number_of_flag-file.result c.args.application.now.parents_file c.number_of_flag-file.ensures.value i ∷ age i ∷ []) }
