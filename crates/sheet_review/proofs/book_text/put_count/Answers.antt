use Rattle.std.proofs.Common.{◌∷◌, [], codes, decimal}
use Rattle.std.proofs.lemmas.Result.{on_ok_weaker}
use Rattle.sheet_review.proofs.Pieces.{appended}
use Rattle.sheet_review.proofs.book_text.put_count.Goals as goal

pub returns : goal.returns
returns c =
    on_ok_weaker c.put_text-2.result
    (λ last. appended c.args.out.now.items
    (c.args.key.now ∷ decimal c.args.number ∷ codes "\n" ∷ []) _
    (_, c.in_ok-put_text.ensures, (_, c.in_ok-put_digits.ensures, last)))
    c.put_text-2.ensures
