use Rattle.std.proofs.Common.{rules, ◌≡◌, ◌∷◌, [], codes, w64, to_z, of_z}
use Rattle.std.proofs.lemmas.Result.{on_ok_weaker}
use Rattle.aid_types.specs.Whole.{whole_text}
use Rattle.sheet_review.proofs.Pieces.{appended}
use Rattle.sheet_review.proofs.sections.put_line.Goals as goal

pub returns : goal.returns
returns c =
    let same : to_z w64 (of_z w64 c.args.number.now) ≡ c.args.number.now = search rules in
    on_ok_weaker c.put_text-3.result
    (λ last. appended c.args.out.now.items
    (c.args.key.now ∷ codes " = " ∷ whole_text c.args.number.now ∷ codes "\n" ∷ []) _
    (_, c.in_ok-put_text.ensures, (_, c.in_ok-put_text-2.ensures, (_, rw same at c.in_ok-put_number.ensures, last))))
    c.put_text-3.ensures
