use Rattle.std.proofs.Common.{rules, ◌≡◌, ◌<◌, ◌^◌, ◌∙◌, w64, to_z, of_z, arith}
use Rattle.std.specs.Int.Signed.{mag}
use Rattle.sheet_need.proofs.NeedPieces.{appended, spelled}
use Rattle.sheet_need.proofs.lines.put_number.Goals as goal

pub returns : goal.returns
returns c =
    let same : to_z w64 (of_z w64 c.args.number) ≡ c.args.number = search rules in
    let size : mag c.args.number < 2 ^ 127 = omega (arith, c.ranges.number.sfits) in
    let text = c.as_bytes.ensures.value ∙ (rw same at c.format.ensures.text) ∙ spelled c.args.number size in
    appended c.extend_from_slice.result _ _ _ (rw text at c.extend_from_slice.ensures.items)
