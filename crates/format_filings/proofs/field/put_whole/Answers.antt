use Rattle.std.proofs.Common.{rules, ◌≡◌, ◌∙◌, w64, to_z, of_z}
use Rattle.aid_types.proofs.SignedText.{signed_decimal-whole_text}
use Rattle.format_filings.proofs.WritingLemmas.{text_added}
use Rattle.format_filings.proofs.field.put_whole.Goals as goal

pub returns : goal.returns
returns c =
    let same : to_z w64 (of_z w64 c.args.number) ≡ c.args.number = search rules in
    let text = c.as_bytes.ensures.value ∙ (rw same at c.format.ensures.text) ∙ signed_decimal-whole_text c.args.number c.ranges.number.sfits in
    text_added c.extend_from_slice.result _ _ _ _ c.extend_from_slice.ensures.items text
