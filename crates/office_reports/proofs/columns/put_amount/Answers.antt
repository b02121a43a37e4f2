use Rattle.office_reports.proofs.Pieces.{amount}
use Rattle.std.proofs.Common.{arith}
use Rattle.office_reports.proofs.columns.put_amount.Goals as goal

pub returns : goal.returns
returns c =
    rw (c.in_ok-push-3.ensures.items, c.in_ok-push-2.ensures.items, c.in_ok-push.ensures.items, c.in_ok-put_number.ensures)
    (amount c.args.out.now.items c.args.cents c.args.end (omega (arith, c.ranges.cents.fits)))
