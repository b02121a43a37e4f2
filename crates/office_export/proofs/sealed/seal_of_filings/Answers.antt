use Rattle.office_export.proofs.SealLemmas.{seal-more, seal-whole}
use Rattle.office_export.proofs.sealed.seal_of_filings.Goals as goal

pub loop-index-preserved : goal.loop-index-preserved
loop-index-preserved c =
    seal-more c.args.filings.now c.args.stamps.now c.loop-index.index c.index-filings-index.result c.index-stamps-index.result c.loop-index-test.true c.requires.stamped
    c.index-filings-index.is c.index-stamps-index.is _ _ c.loop-index.invariant c.sealed_with-seal.ensures

pub returns : goal.returns
returns c = seal-whole c.args.filings.now c.args.stamps.now c.loop-index.index c.loop-index-test.false c.requires.stamped _ c.loop-index.invariant
