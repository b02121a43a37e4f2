use Rattle.std.proofs.Common.{◌≡◌, ◌+◌, ◌%◌, [], ◌∷◌, decimal, append_assoc, arith}
use Rattle.std.proofs.lemmas.Fmt.{decimal_digit}
use Rattle.format_filings.proofs.reply.push_percent.Goals as goal

pub returns-clause-bytes : goal.returns-clause-bytes
returns-clause-bytes c =
    let digit : decimal (c.args.tenths % 10) ≡ (48 + c.args.tenths % 10) ∷ [] = decimal_digit (c.args.tenths % 10) (omega arith) in
    rw (c.push_digit.ensures.bytes, c.push_str.ensures.bytes, c.push_count.ensures.bytes, c.from.ensures, digit) (simp append_assoc)
