use Rattle.std.proofs.Common.{rules, ◌≡◌, [], ◌∷◌, decimal, of_z, to_z, w32}
use Rattle.std.proofs.lemmas.Result.{on_ok_weaker}
use Rattle.aid_types.specs.Cents.{cents_text}
use Rattle.aid_types.specs.Whole.{whole_text}
use Rattle.aid_types.specs.Words.{formula_text, way_text}
use Rattle.office_reports.specs.Columns.{left, right}
use Rattle.office_export.proofs.Written.{written}
use Rattle.office_reports.proofs.lines.StandingOfReportLine.put.Goals as goal

pub returns : goal.returns
returns c =
    let s = c.args.self.now in
    let formula = rw (c.as_bytes.ensures.value, c.formula_name.ensures.text) at c.in_ok-put_text.ensures in
    let same : to_z w32 (of_z w32 s.row.sai) ≡ s.row.sai = search rules in
    let sai = rw same at c.in_ok-put_whole.ensures in
    let way = rw (c.as_bytes-2.ensures.value, c.way_name.ensures.text) at c.in_ok-put_left.ensures in
    let scheduled = rw c.from.ensures at c.in_ok-put_number.ensures in
    let used = rw c.from-2.ensures at c.put_number-2.ensures in
    on_ok_weaker c.put_number-2.result
    (λ last. written c.args.out.now.items (right 12 (decimal s.student)) (formula_text s.row.formula ∷ right 7 (whole_text s.row.sai) ∷ left 10 (way_text s.row.way) ∷ right 6 (decimal s.row.scheduled) ∷ right 12 (cents_text s.row.paid) ∷ right 7 (decimal s.row.used) ∷ []) _
    (_, c.in_ok-put_student.ensures, (_, formula, (_, sai, (_, way, (_, scheduled, (_, c.in_ok-put_amount.ensures, last)))))))
    used
