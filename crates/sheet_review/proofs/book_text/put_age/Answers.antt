use Rattle.std.proofs.Common.{◌∷◌, [], codes}
use Rattle.std.proofs.lemmas.Result.{on_ok_weaker}
use Rattle.sheet_review.specs.BookText.{age_text, number_line}
use Rattle.sheet_review.proofs.Pieces.{appended}
use Rattle.sheet_review.proofs.book_text.put_age.Goals as goal

pub returns : goal.returns
unfolding age_text
returns c =
    on_ok_weaker c.put_line-3.result
    (λ last. appended c.args.out.now.items
    (codes "\n[[age]]\n" ∷ number_line (codes "from") c.args.row.now.start ∷ number_line (codes "single") c.args.row.now.single ∷ number_line (codes "married") c.args.row.now.married ∷ []) _
    (_, c.in_ok-put_text.ensures, (_, c.in_ok-put_line.ensures, (_, c.in_ok-put_line-2.ensures, last))))
    c.put_line-3.ensures
