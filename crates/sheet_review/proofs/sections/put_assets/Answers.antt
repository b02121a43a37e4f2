use Rattle.std.proofs.Common.{◌∷◌, [], codes}
use Rattle.std.proofs.lemmas.Result.{on_ok_weaker}
use Rattle.sheet_review.specs.BookText.{assets_text, number_line}
use Rattle.sheet_review.proofs.Pieces.{appended}
use Rattle.sheet_review.proofs.sections.put_assets.Goals as goal

pub returns : goal.returns
unfolding assets_text
returns c =
    on_ok_weaker c.put_line-4.result
    (λ last. appended c.args.out.now.items
    (codes "\n[assets]\n" ∷ number_line (codes "parents_rate") c.args.rates.now.parents_rate ∷ number_line (codes "dependent_rate") c.args.rates.now.dependent_rate ∷ number_line (codes "no_dependents_rate") c.args.rates.now.no_dependents_rate ∷ number_line (codes "with_dependents_rate") c.args.rates.now.with_dependents_rate ∷ []) _
    (_, c.in_ok-put_text.ensures, (_, c.in_ok-put_line.ensures, (_, c.in_ok-put_line-2.ensures, (_, c.in_ok-put_line-3.ensures, last)))))
    c.put_line-4.ensures
