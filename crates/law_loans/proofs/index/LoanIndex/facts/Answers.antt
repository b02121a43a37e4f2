use Rattle.std.proofs.Common.{List, ap, reverse, ◌∙◌}
use Rattle.law_loans.specs.declared.filing.LoanFiling.{LoanFiling}
use Rattle.law_loans.specs.Register.{OnFile}
use Rattle.law_loans.specs.Rows.{limits_or, limits_row, student_or, student_row, year_or, year_row}
use Rattle.law_loans.specs.declared.names.StudentYear.{StudentYear}
use Rattle.law_loans.proofs.OnFile.{facts_gathered, small_gathered}
use Rattle.law_loans.proofs.index.LoanIndex.facts.Goals as goal

pub returns-clause-value : goal.returns-clause-value
returns-clause-value c =
    let h : List LoanFiling = reverse c.self.inside.filings.items in
    let student = c.student_named-student in
    let year = c.year_named-year in
    let name : StudentYear = record { student = student.result; year = year.result } in
    facts_gathered c.args.self.now.history h c.args.filing.now c.count.result c.limits_told-limits.result c.student_told-of_student.result c.year_told-of_year.result
    c.limits_of-last_limits.result c.before_sub.result c.before_total.result
    (ap (λ (o : OnFile). o.history) c.self.view_is)
    c.count.ensures
    (c.limits_told-limits.ensures ∙ ap limits_or c.at.ensures ∙ c.self.invariant.0.limits_told year.result ∙ ap (limits_row h) year.ensures)
    (c.student_told-of_student.ensures ∙ ap student_or c.at-2.ensures ∙ c.self.invariant.0.students_told student.result ∙ ap (student_row h) student.ensures)
    (c.year_told-of_year.ensures ∙ ap year_or c.at-3.ensures ∙ c.self.invariant.0.years_told name ∙ (λ i. year_row h (record { student = student.ensures i; year = year.ensures i })))
    c.limits_of-last_limits.ensures c.before_sub.ensures c.before_total.ensures

pub returns-clause-small : goal.returns-clause-small
returns-clause-small c =
    let name : StudentYear = record { student = c.student_named-student.result; year = c.year_named-year.result } in
    small_gathered (reverse c.self.inside.filings.items) c.self.inside.limits.rows c.self.inside.students.rows c.self.inside.years.rows c.student_named-student.result name
    c.student_told-of_student.result c.year_told-of_year.result c.self.invariant.0
    (c.student_told-of_student.ensures ∙ ap student_or c.at-2.ensures) (c.year_told-of_year.ensures ∙ ap year_or c.at-3.ensures)
