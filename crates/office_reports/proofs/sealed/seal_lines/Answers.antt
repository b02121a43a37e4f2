use Rattle.std.proofs.Common.{take}
use Rattle.office_export.proofs.SealLemmas.{seal-more}
use Rattle.office_reports.proofs.SealLemmas.{lines-more, lines-none, lines-whole}
use Rattle.office_reports.proofs.sealed.seal_lines.Goals as goal

pub loop-index-init : goal.loop-index-init
loop-index-init c = (c.first_seal-seal.ensures, lines-none (take 0 c.args.stamps.now) _ _ _ c.first_seal-seal.ensures c.new-out.ensures.items c.in_ok-put_sealed_line.ensures)

pub loop-index-preserved : goal.loop-index-preserved
loop-index-preserved c =
    let h = c.args.filings.now in
    let stamps = c.args.stamps.now in
    let i = c.loop-index.index in
    let f = c.index-filings-index.result in
    let s = c.index-stamps-index.result in
    let sealed = seal-more h stamps i f s c.loop-index-test.true c.requires.stamped c.index-filings-index.is c.index-stamps-index.is _ _ c.loop-index.invariant.0 c.sealed_with-seal.ensures in
    (sealed, lines-more h stamps i f s c.loop-index-test.true c.requires.stamped c.index-filings-index.is c.index-stamps-index.is _ _ _ sealed c.loop-index.invariant.1 c.in_ok-put_sealed_line-2.ensures)

pub returns : goal.returns
returns c = lines-whole c.args.filings.now c.args.stamps.now c.loop-index.index c.loop-index-test.false c.requires.stamped _ _ c.loop-index.invariant.1 c.in_ok-put_count.ensures
