use Rattle.std.proofs.Common.{[], ◌∷◌, ◌-◌, ◌∙◌, append_assoc, decimal}
use Rattle.std.proofs.lemmas.Result.{on_ok_weaker}
use Rattle.aid_types.specs.Cents.{cents_text}
use Rattle.aid_types.specs.Words.{program_text}
use Rattle.law_terms.specs.Days.{day_text}
use Rattle.office_reports.specs.Lines.{due_text}
use Rattle.office_sheets.proofs.Ahead.{joined_line}
use Rattle.sheet_returns.proofs.lines.ReturnOfYearReportLine.put.Goals as goal

pub returns : goal.returns
returns c =
    let r = c.args.self.now in
    let term = rw c.from.ensures at c.in_ok-put_number.ensures in
    let left = rw c.saturating_sub.ensures at c.in_ok-put_dollars-4.ensures in
    let position = rw c.from-2.ensures at c.in_ok-put_number-2.ensures in
    on_ok_weaker c.put_number-3.result
    (λ last. joined_line c.args.out.now.items
    (decimal r.student ∷ decimal r.term ∷ program_text r.program ∷ day_text r.determined ∷ due_text r.due ∷ cents_text r.returned
    ∷ cents_text r.sent ∷ due_text r.last_sent ∷ cents_text r.sent_late ∷ cents_text (r.returned - r.sent) ∷ cents_text r.owed ∷ cents_text r.repaid
    ∷ decimal r.position ∷ [])
    (decimal r.number) _ (
      _,
      c.in_ok-put_student.ensures,
      (
        _,
        term,
        (
          _,
          c.in_ok-put_program.ensures,
          (
            _,
            c.in_ok-put_day_column.ensures,
            (
              _,
              c.in_ok-put_day_or_none.ensures,
              (
                _,
                c.in_ok-put_dollars.ensures,
                (
                  _,
                  c.in_ok-put_dollars-2.ensures,
                  (
                    _,
                    c.in_ok-put_day_or_none-2.ensures,
                    (
                      _,
                      c.in_ok-put_dollars-3.ensures,
                      (
                        _,
                        left,
                        (_, c.in_ok-put_dollars-5.ensures, (_, c.in_ok-put_dollars-6.ensures, (_, position, last ∙ append_assoc _ (decimal r.number) (10 ∷ [])))),
                      ),
                    ),
                  ),
                ),
              ),
            ),
          ),
        ),
      ),
    ))
    c.put_number-3.ensures
