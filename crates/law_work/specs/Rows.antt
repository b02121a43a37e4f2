-- What the rows of the index tell of a list of filings, which is read newest first.
use Rattle.std.specs.Prelude.{◌≡◌, ◌≤◌, List, length, Option, Some, None}
use Rattle.std.specs.Ordering.{nat_cmp, ordering_then}
use Rattle.std.specs.declared.cmp.Ordering.{Ordering}
use Rattle.sorted_rows.specs.Places.{value_at}
use Rattle.law_work.specs.declared.filing.WorkFiling.{WorkFiling}
use Rattle.law_work.specs.Funds.{award_at, earned, fund, fund_at, in_force, in_fund, of_student}
use Rattle.law_work.specs.Rules.{AreAllowed, most_work_filings, student_of, year_of}
use Rattle.law_work.specs.declared.names.AwardName.{AwardName}
use Rattle.law_work.specs.declared.names.FundName.{FundName}
use Rattle.law_work.specs.declared.rows.AwardRow.{AwardRow}
use Rattle.law_work.specs.declared.rows.FundRow.{FundRow}

-- ---- names and their order: of funds by school and year, of awards by student, school and year
abbrev pub fund_cmp : FundName → FundName → Ordering
fund_cmp a b = ordering_then (nat_cmp a.school b.school) (nat_cmp a.year b.year)

abbrev pub award_cmp : AwardName → AwardName → Ordering
award_cmp a b = ordering_then (nat_cmp a.student b.student) (ordering_then (nat_cmp a.school b.school) (nat_cmp a.year b.year))

-- what a filing is about
abbrev pub fund_name : WorkFiling → FundName
fund_name f = record { school = f.key.school; year = year_of f.what }

abbrev pub award_name : WorkFiling → AwardName
award_name f = record { student = student_of f.what; school = f.key.school; year = year_of f.what }

-- ---- what is on file under a name
abbrev pub fund_row : List WorkFiling → FundName → FundRow
fund_row past name = record {
  at = fund_at past name.school name.year;
  dollars = fund past name.school name.year;
  awards = in_force past (in_fund name.school name.year);
}

abbrev pub award_row : List WorkFiling → AwardName → AwardRow
award_row past name = record {
  at = award_at past name.school name.year name.student;
  award = in_force past (of_student name.school name.year name.student);
  earned = earned past (of_student name.school name.year name.student);
}

-- amounts of a row, so small that those of a filing may be added
abbrev pub AreSmallFunds : FundRow → Type 0
AreSmallFunds row = (row.dollars ≤ 9999999) × (row.awards ≤ 9999999)

abbrev pub AreSmallAwards : AwardRow → Type 0
AreSmallAwards row = (row.award ≤ 4000) × (row.earned ≤ 400000)

-- ---- what a row tells, and what is told where there is none
abbrev pub fund_or : Option FundRow → FundRow
fund_or None = record { at = 0; dollars = 0; awards = 0 }
fund_or (Some row) = row

abbrev pub award_or : Option AwardRow → AwardRow
award_or None = record { at = 0; award = 0; earned = 0 }
award_or (Some row) = row

-- ---- the rows of each table tell what is on file
abbrev pub AreFunds : List WorkFiling → List (FundName × FundRow) → Type 0
AreFunds past rows = (name : FundName) → fund_or (value_at fund_cmp name rows) ≡ fund_row past name

abbrev pub AreAwards : List WorkFiling → List (AwardName × AwardRow) → Type 0
AreAwards past rows = (name : AwardName) → award_or (value_at award_cmp name rows) ≡ award_row past name

-- both tables tell of these filings, each of which breaks no rule on those before it
pub record AreIndexed (past : List WorkFiling) (funds : List (FundName × FundRow)) (awards : List (AwardName × AwardRow)) : Type 0 where
  pub allowed : AreAllowed past
  pub few : length past ≤ most_work_filings
  pub funds_told : AreFunds past funds
  pub awards_told : AreAwards past awards
