use Rattle.office_export.proofs.SealLemmas.{filed-more, filed-whole}
use Rattle.office_reports.proofs.exported.filing_lines.Goals as goal

pub loop-index-preserved : goal.loop-index-preserved
loop-index-preserved c =
    filed-more c.args.filings.now c.args.stamps.now c.loop-index.index c.index-filings-index.result c.index-stamps-index.result c.loop-index-test.true c.requires.stamped
    c.index-filings-index.is c.index-stamps-index.is _ _ c.loop-index.invariant c.in_ok-put_filing_line.ensures.line

pub returns : goal.returns
returns c = filed-whole c.args.filings.now c.args.stamps.now c.loop-index.index c.loop-index-test.false c.requires.stamped _ c.loop-index.invariant
