use Rattle.std.proofs.Common.{arith}
use Rattle.office_sheets.proofs.Passed.{stands_inside}
use Rattle.sheet_review.proofs.ReviewLemmas.{applications_more}
use Rattle.sheet_review.proofs.reviewed.put_application_lines.Goals as goal

pub loop-index-preserved : goal.loop-index-preserved
loop-index-preserved c =
    let filings = c.filings-filings.result.now in
    let h = c.args.office.now.history in
    let i = c.loop-index.index in
    let inside = stands_inside filings h i c.front-index-end.result c.filings-filings.ensures c.loop-index-test.true (omega (arith, c.front-index-end.ensures.value)) in
    applications_more c.args.student c.args.year filings h c.args.stamps.now i c.index-filings-place.result c.index-stamps-place.result c.filings-filings.ensures inside
    (omega (arith, c.front-index-end.ensures.value, c.requires.stamped, c.loop-index-test.true)) c.index-filings-place.is c.index-stamps-place.is
    c.args.out.now.items _ _ c.loop-index.invariant c.in_ok-put_application.ensures
