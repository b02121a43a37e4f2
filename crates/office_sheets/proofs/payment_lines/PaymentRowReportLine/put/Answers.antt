use Rattle.std.proofs.Common.{[], ◌∷◌, ◌∙◌, append_assoc, decimal}
use Rattle.std.proofs.lemmas.Result.{on_ok_weaker}
use Rattle.aid_types.specs.Cents.{cents_text}
use Rattle.aid_types.specs.Words.{program_text}
use Rattle.law_terms.specs.Days.{day_text}
use Rattle.office_sheets.specs.LedgerLines.{moved_text, movement_text}
use Rattle.office_sheets.specs.Lists.{clerk_text}
use Rattle.office_sheets.proofs.Ahead.{joined_line}
use Rattle.office_sheets.proofs.payment_lines.PaymentRowReportLine.put.Goals as goal

pub returns : goal.returns
returns c =
    let r = c.args.self.now in
    let position = rw c.from.ensures at c.in_ok-put_number.ensures in
    let term = rw c.from-2.ensures at c.in_ok-put_number-3.ensures in
    on_ok_weaker c.put_clerk.result
    (λ last. joined_line c.args.out.now.items
    (decimal r.position ∷ decimal r.key.school ∷ decimal r.key.number ∷ movement_text r.moved.movement ∷ decimal r.student ∷ decimal r.year
    ∷ decimal r.term ∷ program_text r.moved.program ∷ moved_text r.moved.movement r.moved.cents ∷ cents_text r.total ∷ day_text r.stamp.day ∷ [])
    (clerk_text r.stamp.clerk) _ (
      _,
      position,
      (
        _,
        c.in_ok-put_school.ensures,
        (
          _,
          c.in_ok-put_number-2.ensures,
          (
            _,
            c.in_ok-put_kind.ensures,
            (
              _,
              c.in_ok-put_student.ensures,
              (
                _,
                c.in_ok-put_year.ensures,
                (
                  _,
                  term,
                  (
                    _,
                    c.in_ok-put_program.ensures,
                    (
                      _,
                      c.in_ok-put_moved.ensures,
                      (
                        _,
                        c.in_ok-put_dollars.ensures,
                        (
                          _,
                          c.in_ok-put_day_column.ensures,
                          last ∙ append_assoc _ (clerk_text r.stamp.clerk) (10 ∷ []),
                        ),
                      ),
                    ),
                  ),
                ),
              ),
            ),
          ),
        ),
      ),
    ))
    c.put_clerk.ensures
