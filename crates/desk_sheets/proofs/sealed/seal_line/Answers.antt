use Rattle.log_rules.specs.Ruled.{scheme_of}
use Rattle.desk_sheets.proofs.Fronts.{line-whole, seal-more}
use Rattle.desk_sheets.proofs.sealed.seal_line.Goals as goal

pub loop-filed-preserved : goal.loop-filed-preserved
loop-filed-preserved g c =
    seal-more (scheme_of g.R.OfficeRules.ruling) c.args.filings.now c.loop-filed.filed-index c.filed-item.result c.loop-filed-test.true c.filed-item.is _ _ c.loop-filed.invariant c.sealed_with-seal.ensures

pub returns : goal.returns
returns g c = line-whole (scheme_of g.R.OfficeRules.ruling) c.args.filings.now c.loop-filed.filed-index c.loop-filed-test.false _ _ _ c.loop-filed.invariant c.new-out.ensures.items c.in_ok-put_sealed_line.ensures
