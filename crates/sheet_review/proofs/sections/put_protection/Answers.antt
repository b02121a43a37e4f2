use Rattle.std.proofs.Common.{◌∷◌, [], codes}
use Rattle.std.proofs.lemmas.Result.{on_ok_weaker}
use Rattle.sheet_review.specs.BookText.{number_line, numbers_line, protection_text}
use Rattle.sheet_review.proofs.Pieces.{appended}
use Rattle.sheet_review.proofs.sections.put_protection.Goals as goal

pub returns : goal.returns
unfolding protection_text
returns c =
    on_ok_weaker c.put_line-6.result
    (λ last. appended c.args.out.now.items
    (codes "\n[protection]\n" ∷ numbers_line (codes "parents") c.args.protection.now.parents.sizes ∷ number_line (codes "parents_extra") c.args.protection.now.parents.extra ∷ number_line (codes "dependent_student") c.args.protection.now.dependent_student ∷ number_line (codes "single_student") c.args.protection.now.single_student ∷ number_line (codes "married_student") c.args.protection.now.married_student ∷ numbers_line (codes "single_parent") c.args.protection.now.single_parent.sizes ∷ number_line (codes "single_parent_extra") c.args.protection.now.single_parent.extra ∷ numbers_line (codes "married_parent") c.args.protection.now.married_parent.sizes ∷ number_line (codes "married_parent_extra") c.args.protection.now.married_parent.extra ∷ []) _
    (_, c.in_ok-put_text.ensures, (_, c.in_ok-put_numbers.ensures, (_, c.in_ok-put_line.ensures, (_, c.in_ok-put_line-2.ensures, (_, c.in_ok-put_line-3.ensures, (_, c.in_ok-put_line-4.ensures, (_, c.in_ok-put_numbers-2.ensures, (_, c.in_ok-put_line-5.ensures, (_, c.in_ok-put_numbers-3.ensures, last))))))))))
    c.put_line-6.ensures
