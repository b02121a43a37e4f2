use Rattle.std.proofs.Common.{◌∷◌, [], codes}
use Rattle.std.proofs.lemmas.Result.{on_ok_weaker}
use Rattle.sheet_review.specs.BookText.{number_line, numbers_line, poverty_text}
use Rattle.sheet_review.proofs.Pieces.{appended}
use Rattle.sheet_review.proofs.sections.put_poverty.Goals as goal

pub returns : goal.returns
unfolding poverty_text
returns c =
    on_ok_weaker c.put_line-3.result
    (λ last. appended c.args.out.now.items
    (codes "\n[poverty]\n" ∷ numbers_line (codes "contiguous") c.args.poverty.now.contiguous.sizes ∷ number_line (codes "contiguous_extra") c.args.poverty.now.contiguous.extra ∷ numbers_line (codes "alaska") c.args.poverty.now.alaska.sizes ∷ number_line (codes "alaska_extra") c.args.poverty.now.alaska.extra ∷ numbers_line (codes "hawaii") c.args.poverty.now.hawaii.sizes ∷ number_line (codes "hawaii_extra") c.args.poverty.now.hawaii.extra ∷ []) _
    (_, c.in_ok-put_text.ensures, (_, c.in_ok-put_numbers.ensures, (_, c.in_ok-put_line.ensures, (_, c.in_ok-put_numbers-2.ensures, (_, c.in_ok-put_line-2.ensures, (_, c.in_ok-put_numbers-3.ensures, last)))))))
    c.put_line-3.ensures
