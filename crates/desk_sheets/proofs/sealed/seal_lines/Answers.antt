use Rattle.log_rules.specs.Ruled.{scheme_of}
use Rattle.desk_sheets.proofs.Fronts.{lines-more, lines-none, lines-whole, seal-more}
use Rattle.desk_sheets.proofs.sealed.seal_lines.Goals as goal

pub loop-index-init : goal.loop-index-init
loop-index-init g c =
    (c.seal_of_none-seal.ensures, lines-none (scheme_of g.R.OfficeRules.ruling) _ _ _ c.seal_of_none-seal.ensures c.new-out.ensures.items c.in_ok-put_sealed_line.ensures)

pub loop-index-preserved : goal.loop-index-preserved
loop-index-preserved g c =
    let scheme = scheme_of g.R.OfficeRules.ruling in
    let sealed = seal-more scheme c.args.filings.now c.loop-index.index c.index-filings-index.result c.loop-index-test.true c.index-filings-index.is _ _ c.loop-index.invariant.0 c.sealed_with-seal.ensures in
    (sealed, lines-more scheme c.args.filings.now c.loop-index.index c.index-filings-index.result c.loop-index-test.true c.index-filings-index.is _ _ _ sealed c.loop-index.invariant.1 c.in_ok-put_sealed_line-2.ensures)

pub returns : goal.returns
returns g c = lines-whole (scheme_of g.R.OfficeRules.ruling) c.args.filings.now c.loop-index.index c.loop-index-test.false _ _ c.loop-index.invariant.1 c.in_ok-put_count.ensures
