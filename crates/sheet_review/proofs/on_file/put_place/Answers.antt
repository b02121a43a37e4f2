use Rattle.std.proofs.Common.{◌∷◌, [], codes, decimal}
use Rattle.std.proofs.lemmas.Result.{on_ok_weaker}
use Rattle.law_terms.specs.Days.{day_text}
use Rattle.office_sheets.specs.Lists.{clerk_text}
use Rattle.sheet_review.proofs.Pieces.{appended}
use Rattle.sheet_review.proofs.on_file.put_place.Goals as goal

pub returns : goal.returns
returns c =
    on_ok_weaker c.put_text-4.result
    (λ last. appended c.args.out.now.items
    (codes "# book at " ∷ decimal c.args.position ∷ codes ", " ∷ day_text c.args.stamp.day ∷ codes " " ∷ clerk_text c.args.stamp.clerk ∷ codes "\n" ∷ []) _
    (_, c.in_ok-put_text.ensures, (_, c.in_ok-put_position.ensures, (_, c.in_ok-put_text-2.ensures, (_, c.in_ok-put_day.ensures.text, (_, c.in_ok-put_text-3.ensures, (_, c.in_ok-put_clerk.ensures, last)))))))
    c.put_text-4.ensures
