use Rattle.std.proofs.Common.{◌∙◌, ◌++◌, List, ℕ, ◌∷◌, [], pos, arith, append_assoc, ap}
use Rattle.aid_types.specs.Whole.{whole_text}
use Rattle.aid_types.proofs.WholeLemmas.{decimal-natural_text}
use Rattle.std.proofs.lemmas.Result.{on_ok_weaker}
use Rattle.format_filings.proofs.WritingLemmas.{text_added}
use Rattle.format_filings.proofs.field.put_natural.Goals as goal

pub returns : goal.returns
returns c =
    let text = c.as_bytes.ensures.value ∙ c.format.ensures.text ∙ decimal-natural_text c.args.number (omega (arith, c.ranges.number.fits)) in
    on_ok_weaker c.extend_from_slice.result
    (λ e. e ∙ ap (λ (front : List ℕ). front ++ whole_text (pos c.args.number)) c.in_ok-push.ensures.items ∙ append_assoc c.args.out.now.items (44 ∷ []) (whole_text (pos c.args.number)))
    (text_added c.extend_from_slice.result _ _ _ _ c.extend_from_slice.ensures.items text)
