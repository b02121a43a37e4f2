use Rattle.office_reports.proofs.StampLines.{stamps-more, stamps-whole}
use Rattle.office_reports.proofs.reports.stamp_lines.Goals as goal

pub loop-index-preserved : goal.loop-index-preserved
loop-index-preserved c =
    stamps-more c.args.stamps.now c.loop-index.index c.index-stamps-index.result c.loop-index-test.true c.index-stamps-index.is _ _ c.loop-index.invariant c.in_ok-put_stamp.ensures

pub returns : goal.returns
returns c = stamps-whole c.args.stamps.now c.loop-index.index c.loop-index-test.false _ _ c.loop-index.invariant c.in_ok-put_count.ensures
