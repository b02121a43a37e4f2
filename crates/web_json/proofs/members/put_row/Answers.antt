use Rattle.std.proofs.Common.{rules, ◌≡◌, sym, ◌∙◌, w64, to_z, of_z}
use Rattle.std.specs.Prelude.{Some, None}
use Rattle.web_json.proofs.MemberLemmas.{left_none, row_next, row_short}
use Rattle.web_json.proofs.members.put_row.Goals as goal

pub returns-in_err-value : goal.returns-in_err-value
returns-in_err-value c =
    let short = row_short c.args.columns.now c.loop-column.column-index c.loop-column.rest.now c.loop-column.draft c.loop-column-test.true c.in_err-value.ensures.cases in
    left_none _ _ _ c.from_residual.ensures (sym c.loop-column.invariant ∙ short)

pub returns-in_err-put_number : goal.returns-in_err-put_number
returns-in_err-put_number c =
    let z = c.in_ok-number_in.field-0 in
    let same : to_z w64 (of_z w64 z) ≡ z = search rules in
    let next = row_next c.args.columns.now c.loop-column.column-index _ c.loop-column.rest.now c.in_ok-value.more.now c.in_ok-value.value.now c.loop-column.draft _ z None
    c.loop-column-test.true c.in_ok-value.ensures.cases.0 c.in_ok-number_in.ensures same c.in_err-put_number.ensures in
    left_none _ _ _ c.from_residual-in_err-put_number.ensures (sym c.loop-column.invariant ∙ next)

pub loop-column-preserved : goal.loop-column-preserved
loop-column-preserved c =
    let z = c.in_ok-number_in.field-0 in
    let same : to_z w64 (of_z w64 z) ≡ z = search rules in
    let next = row_next c.args.columns.now c.loop-column.column-index _ c.loop-column.rest.now c.in_ok-value.more.now c.in_ok-value.value.now c.loop-column.draft _ z (Some c.put_number.new.draft)
    c.loop-column-test.true c.in_ok-value.ensures.cases.0 c.in_ok-number_in.ensures same c.in_ok-put_number.ensures in
    sym next ∙ c.loop-column.invariant
