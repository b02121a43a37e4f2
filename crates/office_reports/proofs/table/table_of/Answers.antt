use Rattle.office_reports.proofs.Passes.{lines-more}
use Rattle.office_reports.proofs.table.table_of.Goals as goal

pub loop-row-preserved : goal.loop-row-preserved
loop-row-preserved g c =
    lines-more g.L.ReportLine.line c.args.rows.now c.loop-row.row-index c.row-item.result c.loop-row-test.true c.row-item.is _ _ c.loop-row.invariant c.in_ok-put.ensures
