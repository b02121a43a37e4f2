use Rattle.std.proofs.Common.{◌≡◌, ◌<◌, ◌/◌, ◌^◌, decimal, append_assoc, arith}
use Rattle.aid_types.specs.Whole.{natural_text}
use Rattle.aid_types.proofs.WholeLemmas.{decimal-natural_text}
use Rattle.format_rows.proofs.numbers.push_cents.Goals as goal

pub returns-clause-bytes : goal.returns-clause-bytes
returns-clause-bytes c =
    let below : c.args.cents / 100 < 10 ^ 64 = omega arith in
    let dollars : decimal (c.args.cents / 100) ≡ natural_text (c.args.cents / 100) = decimal-natural_text (c.args.cents / 100) below in
    rw (c.push_digit-2.ensures.bytes, c.push_digit.ensures.bytes, c.push_str.ensures.bytes, c.push_number.ensures.bytes, dollars) (simp append_assoc)
