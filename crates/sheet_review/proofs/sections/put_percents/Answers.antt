use Rattle.std.proofs.Common.{◌∷◌, [], codes}
use Rattle.std.proofs.lemmas.Result.{on_ok_weaker}
use Rattle.sheet_review.specs.BookText.{number_line, percent_text}
use Rattle.sheet_review.proofs.Pieces.{appended}
use Rattle.sheet_review.proofs.sections.put_percents.Goals as goal

pub returns : goal.returns
unfolding percent_text
returns c =
    on_ok_weaker c.put_line-7.result
    (λ last. appended c.args.out.now.items
    (codes "\n[percent]\n" ∷ number_line (codes "maximum_single") c.args.percents.now.maximum_single ∷ number_line (codes "maximum_other") c.args.percents.now.maximum_other ∷ number_line (codes "minimum_dependent_single") c.args.percents.now.minimum_dependent_single ∷ number_line (codes "minimum_dependent_other") c.args.percents.now.minimum_dependent_other ∷ number_line (codes "minimum_single_parent") c.args.percents.now.minimum_single_parent ∷ number_line (codes "minimum_parent") c.args.percents.now.minimum_parent ∷ number_line (codes "minimum_no_dependents") c.args.percents.now.minimum_no_dependents ∷ []) _
    (_, c.in_ok-put_text.ensures, (_, c.in_ok-put_line.ensures, (_, c.in_ok-put_line-2.ensures, (_, c.in_ok-put_line-3.ensures, (_, c.in_ok-put_line-4.ensures, (_, c.in_ok-put_line-5.ensures, (_, c.in_ok-put_line-6.ensures, last))))))))
    c.put_line-7.ensures
