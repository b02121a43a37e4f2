use Rattle.std.proofs.Common.{◌∷◌, [], codes}
use Rattle.std.proofs.lemmas.Result.{on_ok_weaker}
use Rattle.sheet_review.specs.BookText.{number_line, pell_text}
use Rattle.sheet_review.proofs.Pieces.{appended}
use Rattle.sheet_review.proofs.sections.put_pell.Goals as goal

pub returns : goal.returns
unfolding pell_text
returns c =
    on_ok_weaker c.put_line-2.result
    (λ last. appended c.args.out.now.items
    (codes "\n[pell]\n" ∷ number_line (codes "maximum") c.args.figures.now.maximum ∷ number_line (codes "minimum") c.args.figures.now.minimum ∷ []) _
    (_, c.in_ok-put_text.ensures, (_, c.in_ok-put_line.ensures, last)))
    c.put_line-2.ensures
