use Rattle.std.proofs.Common.{◌∷◌, [], ◌++◌, ◌∙◌, ap, List, ℤ}
use Rattle.format_bytes.proofs.Applications.{flag_word}
use Rattle.format_bytes.proofs.application.put_upbringing.Goals as goal

pub returns : goal.returns
returns c =
    record { added = c.add_numbers.ensures.added ∙ ap (λ (zs : List ℤ). c.args.numbers.now.items ++ zs) (λ i. flag_word c.number_of_flag-orphan.result c.args.application.now.orphan c.number_of_flag-orphan.ensures.value i ∷ flag_word c.number_of_flag-ward.result c.args.application.now.ward c.number_of_flag-ward.ensures.value i ∷ flag_word c.number_of_flag-foster.result c.args.application.now.foster c.number_of_flag-foster.ensures.value i ∷ flag_word c.number_of_flag-emancipated.result c.args.application.now.emancipated c.number_of_flag-emancipated.ensures.value i ∷ flag_word c.number_of_flag-homeless.result c.args.application.now.homeless c.number_of_flag-homeless.ensures.value i ∷ flag_word c.number_of_flag-student_file.result c.args.application.now.student_file c.number_of_flag-student_file.ensures.value i ∷ []) }
