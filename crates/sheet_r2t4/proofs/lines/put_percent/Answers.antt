use Rattle.sheet_r2t4.proofs.ReturnPieces.{percent}
use Rattle.sheet_r2t4.proofs.lines.put_percent.Goals as goal

pub returns : goal.returns
returns c =
    rw (c.in_ok-push-2.ensures.items, c.in_ok-push.ensures.items, c.in_ok-put_number.ensures, c.from.ensures)
    (percent c.args.out.now.items c.args.tenths)
