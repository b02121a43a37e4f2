use Rattle.sheet_review.proofs.ReviewLemmas.{worksheets_more}
use Rattle.sheet_review.proofs.reviewed.put_withdrawals.Goals as goal

pub loop-filing-preserved : goal.loop-filing-preserved
loop-filing-preserved c =
    worksheets_more c.args.student c.args.year c.args.office.now.history c.filings-filings.result.now c.loop-filing.filing-index c.filing-item.result c.loop-filing-test.true c.filing-item.is
    c.args.out.now.items _ _ c.loop-filing.invariant c.in_ok-put_withdrawal.ensures
