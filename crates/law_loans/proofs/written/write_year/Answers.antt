use Rattle.std.proofs.Common.{ap, subst, sym, ◌∙◌}
use Rattle.law_loans.specs.Changes.{AreBelow, year_after}
use Rattle.law_loans.specs.Rows.{year_or}
use Rattle.law_loans.specs.declared.names.StudentYear.{StudentYear}
use Rattle.law_loans.specs.declared.rows.YearRow.{YearRow}
use Rattle.law_loans.proofs.Tables.{year_written}
use Rattle.law_loans.proofs.written.write_year.Goals as goal

pub year_after-requires : goal.year_after-requires
year_after-requires c = record {
  below = subst (λ (row : YearRow). AreBelow row.nets) (sym (c.year_told-row.ensures ∙ ap year_or c.at.ensures)) (c.requires.below _);
}

pub returns-clause-rows : goal.returns-clause-rows
returns-clause-rows c = λ past covered told.
    let name : StudentYear = record { student = c.student_named.result; year = c.year_named.result } in
    year_written past c.args.filing.now name c.year_after.result c.args.years.now.rows c.set.new.self.rows
    (λ i. record { student = c.student_named.ensures i; year = c.year_named.ensures i }) c.set.ensures.values
    (c.year_after.ensures ∙ ap (year_after c.args.filing.now.what) (c.year_told-row.ensures ∙ ap year_or c.at.ensures))
    covered told
