use Rattle.std.proofs.Common.{[], ◌∷◌, ◌++◌, codes}
use Rattle.hex.specs.Hex.{encode_lower}
use Rattle.aid_stamps.specs.Stamps.{stamp_bytes}
use Rattle.format_bytes.specs.Spelling.{spelling}
use Rattle.office_export.proofs.Written.{written}
use Rattle.office_export.proofs.writing.put_filing_line.Goals as goal

pub returns-clause-line : goal.returns-clause-line
returns-clause-line c =
    let digits = rw (c.bytes.ensures.held, c.put_stamped.ensures.spelled) at c.in_ok-put_digits.ensures in
    let last = rw digits at c.in_ok-push.ensures.items in
    written c.args.out.now.items (codes "filing") (encode_lower (stamp_bytes c.args.stamp.now ++ spelling c.args.filing.now) ∷ []) _ (_, c.in_ok-put_word.ensures, last)
