use Rattle.std.proofs.Common.{[], ◌∷◌, ◌-◌, ◌∙◌, append_assoc, decimal}
use Rattle.std.proofs.lemmas.Result.{on_ok_weaker}
use Rattle.aid_types.specs.Cents.{cents_text}
use Rattle.aid_types.specs.Words.{program_text}
use Rattle.office_reports.specs.Lines.{due_text}
use Rattle.office_sheets.proofs.Ahead.{joined_line}
use Rattle.sheet_returns.proofs.lines.OpenReturnReportLine.put.Goals as goal

pub returns : goal.returns
returns c =
    let r = c.args.self.now in
    let late = rw c.from.ensures at c.in_ok-put_number.ensures in
    let term = rw c.from-2.ensures at c.in_ok-put_number-2.ensures in
    let left = rw c.saturating_sub.ensures at c.in_ok-put_dollars-3.ensures in
    let position = rw c.from-3.ensures at c.in_ok-put_number-3.ensures in
    on_ok_weaker c.put_number-4.result
    (λ last. joined_line c.args.out.now.items
    (due_text r.due ∷ decimal r.late ∷ decimal r.student ∷ decimal r.year ∷ decimal r.term ∷ program_text r.program ∷ cents_text r.returned
    ∷ cents_text r.sent ∷ cents_text (r.returned - r.sent) ∷ decimal r.position ∷ [])
    (decimal r.number) _ (
      _,
      c.in_ok-put_day_or_none.ensures,
      (
        _,
        late,
        (
          _,
          c.in_ok-put_student.ensures,
          (
            _,
            c.in_ok-put_year.ensures,
            (
              _,
              term,
              (
                _,
                c.in_ok-put_program.ensures,
                (
                  _,
                  c.in_ok-put_dollars.ensures,
                  (_, c.in_ok-put_dollars-2.ensures, (_, left, (_, position, last ∙ append_assoc _ (decimal r.number) (10 ∷ [])))),
                ),
              ),
            ),
          ),
        ),
      ),
    ))
    c.put_number-4.ensures
