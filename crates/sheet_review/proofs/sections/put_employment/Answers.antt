use Rattle.std.proofs.Common.{◌∷◌, [], codes}
use Rattle.std.proofs.lemmas.Result.{on_ok_weaker}
use Rattle.sheet_review.specs.BookText.{employment_text, number_line}
use Rattle.sheet_review.proofs.Pieces.{appended}
use Rattle.sheet_review.proofs.sections.put_employment.Goals as goal

pub returns : goal.returns
unfolding employment_text
returns c =
    on_ok_weaker c.put_line-2.result
    (λ last. appended c.args.out.now.items
    (codes "\n[employment]\n" ∷ number_line (codes "cap") c.args.employment.now.cap ∷ number_line (codes "rate") c.args.employment.now.rate ∷ []) _
    (_, c.in_ok-put_text.ensures, (_, c.in_ok-put_line.ensures, last)))
    c.put_line-2.ensures
