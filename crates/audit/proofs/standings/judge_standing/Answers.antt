use Rattle.std.proofs.Common.{◌∙◌, ◌++◌, sym, refl, inl, inr}
use Rattle.office_export.specs.Lines.{standing_line}
use Rattle.audit.specs.Findings.{IsAsked}
use Rattle.audit.proofs.Stood.{stands, stands_wrong, told_false}
use Rattle.audit.proofs.standings.judge_standing.Goals as goal

pub returns-then-not-is_same : goal.returns-then-not-is_same
returns-then-not-is_same g c = λ told keeps.
    let s = c.args.student in
    let y = c.args.year in
    let right = c.as_slice.ensures.value ∙ c.in_ok-put_standing_line.ensures ∙ (λ i. c.new-right.ensures.items i ++ standing_line s y (c.standing-row.ensures i)) in
    stands_wrong g.L.AuditedList.most g.L.AuditedList.filings c.args.lines.now c.args.lines.now c.args.line.now told keeps c.requires.before_end (s, y) c.requires.form
    (inl (λ e. told_false _ c.is_same.result c.is_same.ensures c.if-not-is_same.true (e ∙ sym right)))

pub returns-then-not-is_above : goal.returns-then-not-is_above
returns-then-not-is_above g c = λ told keeps.
    stands_wrong g.L.AuditedList.most g.L.AuditedList.filings c.args.lines.now c.args.lines.now c.args.line.now told keeps c.requires.before_end (c.args.student, c.args.year) c.requires.form
    (inr (told_false _ c.is_above.result c.is_above.ensures.above c.if-not-is_above.true))

pub returns : goal.returns
returns g c = λ told keeps.
    let s = c.args.student in
    let y = c.args.year in
    let right = c.as_slice.ensures.value ∙ c.in_ok-put_standing_line.ensures ∙ (λ i. c.new-right.ensures.items i ++ standing_line s y (c.standing-row.ensures i)) in
    let operations : IsAsked (s, y) = record {
      student = c.is_above.ensures.least;
      most_student = c.is_above.ensures.most;
      year = c.number-year.ensures.in_range.0;
      most_year = c.number-year.ensures.in_range.1;
    } in
    stands g.L.AuditedList.most g.L.AuditedList.filings c.args.lines.now _ c.args.line.now told keeps c.requires.before_end (s, y) c.requires.form operations
    (c.is_same.ensures.0 c.if-not-is_same.false ∙ right) (c.is_above.ensures.above.0 c.if-not-is_above.false) refl refl refl refl refl
