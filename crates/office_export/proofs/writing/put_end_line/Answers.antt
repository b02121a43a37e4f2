use Rattle.std.proofs.Common.{[], ◌∷◌, codes, decimal}
use Rattle.hex.specs.Hex.{encode_lower}
use Rattle.office_export.proofs.Written.{written}
use Rattle.office_export.proofs.writing.put_end_line.Goals as goal

pub returns : goal.returns
returns c =
    let filings = rw c.from.ensures at c.in_ok-put_number.ensures in
    let standings = rw c.from-2.ensures at c.in_ok-put_number-2.ensures in
    let last = rw c.in_ok-put_digits.ensures at c.in_ok-push.ensures.items in
    written c.args.out.now.items (codes "end") (decimal c.args.filings ∷ decimal c.args.standings ∷ encode_lower c.args.seal.now.bytes ∷ []) _
    (_, c.in_ok-put_word.ensures, (_, filings, (_, standings, last)))
