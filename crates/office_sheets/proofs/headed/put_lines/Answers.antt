use Rattle.office_sheets.proofs.LinesBehind.{lines_behind}
use Rattle.office_sheets.proofs.headed.put_lines.Goals as goal

pub loop-row-preserved : goal.loop-row-preserved
loop-row-preserved g c =
    lines_behind g.L.ReportLine.line c.args.out.now.items c.args.rows.now c.loop-row.row-index c.row-item.result c.loop-row-test.true c.row-item.is _ _ c.loop-row.invariant c.in_ok-put.ensures
