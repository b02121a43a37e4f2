use Rattle.std.proofs.Common.{rules, ◌≡◌, ◌<◌, ◌^◌, ◌∙◌, w64, to_z, of_z, arith}
use Rattle.std.specs.Int.Signed.{mag}
use Rattle.aid_types.proofs.SignedText.{signed_decimal-whole_text}
use Rattle.sheet_review.proofs.sections.put_number.Goals as goal

pub returns : goal.returns
returns c =
    let same : to_z w64 (of_z w64 c.args.number) ≡ c.args.number = search rules in
    let size : mag c.args.number < 2 ^ 63 = omega (arith, c.ranges.number.sfits) in
    let text = c.as_bytes.ensures.value ∙ (rw same at c.format.ensures.text) ∙ signed_decimal-whole_text c.args.number size in
    rw text at c.put_text.ensures
