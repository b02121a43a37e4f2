use Rattle.office_reports.proofs.SealLemmas.{line-whole}
use Rattle.office_reports.proofs.sealed.seal_line.Goals as goal

pub returns : goal.returns
returns c = line-whole c.args.filings.now c.args.stamps.now _ _ _ c.in_ok-seal.ensures c.new-out.ensures.items c.in_ok-put_sealed_line.ensures
