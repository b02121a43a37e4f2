use Rattle.sheet_r2t4.proofs.ReturnPieces.{amount}
use Rattle.sheet_r2t4.proofs.lines.put_cents.Goals as goal

pub returns : goal.returns
returns c =
    rw (c.in_ok-push-3.ensures.items, c.in_ok-push-2.ensures.items, c.in_ok-push.ensures.items, c.in_ok-put_number.ensures)
    (amount c.args.out.now.items c.args.width c.args.cents c.requires.wide c.ranges.cents.fits)
