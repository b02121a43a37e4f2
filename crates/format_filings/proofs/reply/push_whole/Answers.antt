use Rattle.std.proofs.Common.{rules, ◌≡◌, ◌<◌, ◌^◌, ◌++◌, ap, ◌∙◌, w32, to_z, of_z, arith}
use Rattle.std.specs.Int.Signed.{mag}
use Rattle.aid_types.proofs.SignedText.{signed_decimal-whole_text}
use Rattle.format_filings.proofs.reply.push_whole.Goals as goal

pub returns-clause-bytes : goal.returns-clause-bytes
returns-clause-bytes c =
    let same : to_z w32 (of_z w32 c.args.number) ≡ c.args.number = search rules in
    let size : mag c.args.number < 2 ^ 63 = omega (arith, c.ranges.number.sfits) in
    let text = (rw same at c.format.ensures.text) ∙ signed_decimal-whole_text c.args.number size in
    c.push_str.ensures.bytes ∙ ap (λ added. c.args.line.now.bytes ++ added) text
