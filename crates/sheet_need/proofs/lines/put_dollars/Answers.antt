use Rattle.std.proofs.Common.{rules, ◌≡◌, ◌<◌, ◌^◌, ◌∙◌, to_z, of_z, arith}
use Rattle.std.specs.Int.{w128}
use Rattle.std.specs.Int.Signed.{mag}
use Rattle.sheet_need.proofs.NeedPieces.{spelled}
use Rattle.sheet_need.proofs.lines.put_dollars.Goals as goal

pub returns : goal.returns
returns c =
    let same : to_z w128 (of_z w128 c.args.number) ≡ c.args.number = search rules in
    let size : mag c.args.number < 2 ^ 127 = omega (arith, c.ranges.number.sfits) in
    let text = c.as_bytes.ensures.value ∙ (rw same at c.format.ensures.text) ∙ spelled c.args.number size in
    rw text at c.put_right.ensures
