use Rattle.std.proofs.Common.{◌∷◌, [], codes}
use Rattle.std.proofs.lemmas.Result.{on_ok_weaker}
use Rattle.sheet_review.specs.BookText.{listed}
use Rattle.sheet_review.proofs.Pieces.{appended}
use Rattle.sheet_review.proofs.sections.put_numbers.Goals as goal

pub returns : goal.returns
returns c =
    on_ok_weaker c.put_text-3.result
    (λ last. appended c.args.out.now.items
    (c.args.key.now ∷ codes " = [" ∷ listed c.args.numbers.now ∷ codes "]\n" ∷ []) _
    (_, c.in_ok-put_text.ensures, (_, c.in_ok-put_text-2.ensures, (_, c.in_ok-put_listed.ensures, last))))
    c.put_text-3.ensures
