use Rattle.std.proofs.Common.{◌∷◌, [], codes}
use Rattle.std.proofs.lemmas.Result.{on_ok_weaker}
use Rattle.sheet_review.specs.BookText.{bracket_text, number_line}
use Rattle.sheet_review.proofs.Pieces.{appended}
use Rattle.sheet_review.proofs.book_text.put_bracket.Goals as goal

pub returns : goal.returns
unfolding bracket_text
returns c =
    on_ok_weaker c.put_line-3.result
    (λ last. appended c.args.out.now.items
    (codes "\n[[" ∷ c.args.name.now ∷ codes "]]\n" ∷ number_line (codes "over") c.args.row.now.over ∷ number_line (codes "base") c.args.row.now.base ∷ number_line (codes "rate") c.args.row.now.rate ∷ []) _
    (_, c.in_ok-put_text.ensures, (_, c.in_ok-put_text-2.ensures, (_, c.in_ok-put_text-3.ensures, (_, c.in_ok-put_line.ensures, (_, c.in_ok-put_line-2.ensures, last))))))
    c.put_line-3.ensures
