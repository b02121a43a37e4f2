use Rattle.std.proofs.Common.{◌≡◌, sym, ap, ◌∙◌}
use Rattle.std.specs.Prelude.{Some, None}
use Rattle.serde_json.specs.View.{items_view}
use Rattle.format_table.specs.Parts.{lines_of}
use Rattle.web_json.proofs.MemberLemmas.{left_none, rows_next}
use Rattle.web_json.proofs.members.put_table.Goals as goal

pub returns-in_err-put_row : goal.returns-in_err-put_row
returns-in_err-put_row c =
    let array = ap (λ vs. Some (items_view vs)) c.deref.ensures.value ∙ c.in_ok-values.ensures in
    let next = rows_next (lines_of c.args.columns.now) c.args.rows.now c.loop-row.row-index c.row-item.result c.loop-row.draft c.deref.result.now None
    c.loop-row-test.true c.row-item.is array c.in_err-put_row.ensures in
    left_none _ _ _ c.from_residual-in_err-put_row.ensures (sym c.loop-row.invariant ∙ next)

pub loop-row-preserved : goal.loop-row-preserved
loop-row-preserved c =
    let array = ap (λ vs. Some (items_view vs)) c.deref.ensures.value ∙ c.in_ok-values.ensures in
    let next = rows_next (lines_of c.args.columns.now) c.args.rows.now c.loop-row.row-index c.row-item.result c.loop-row.draft c.deref.result.now (Some c.put_row.new.draft)
    c.loop-row-test.true c.row-item.is array c.in_ok-put_row.ensures in
    sym next ∙ c.loop-row.invariant
