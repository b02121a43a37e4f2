-- The text of a sheet. Own.
use Rattle.std.specs.Prelude.{ℕ, ◌-◌, ◌++◌, nat_le, List, Option, Some, None, codes, drop, if◌then◌else◌, length, reverse}
use Rattle.aid_filings.specs.declared.filing.Filing.{Filing}
use Rattle.office_reports.specs.Reports.{award_report, lifetime_report, return_report, stamp_report, standing_report}
use Rattle.office_reports.specs.Seals.{seal_report, seals_report}
use Rattle.office_sheets.specs.Ledgers.{student_sheet}
use Rattle.office_sheets.specs.Lists.{list_sheet}
use Rattle.sheet_need.specs.Need.{need_sheet}
use Rattle.office_sheets.specs.Payments.{payments_sheet}
use Rattle.office_sheets.specs.Quotes.{quotes_sheet}
use Rattle.office_export.specs.Exports.{export_text}
use Rattle.sheet_r2t4.specs.ReturnSheet.{return_sheet}
use Rattle.sheet_returns.specs.Due.{due_sheet}
use Rattle.sheet_returns.specs.Returns.{returns_sheet}
use Rattle.sheet_review.specs.BookSheet.{book_sheet}
use Rattle.sheet_review.specs.ReviewSheet.{review_sheet}
use Rattle.run_words.specs.declared.command.ReportRequest.{ReportRequest}
use Rattle.run_words.specs.declared.command.ReportRequest.TheVariants as reports
use Rattle.log_stamps.specs.Entries.{entries, stamps_of}
use Rattle.log_stamps.specs.declared.entry.StampedEntry.{StampedEntry}
use Rattle.aid_stamps.specs.declared.stamp.Stamp.{Stamp}
use Rattle.run_sheets.specs.declared.request.Position.{Position}
use Rattle.run_sheets.specs.declared.request.SheetRequest.{SheetRequest}
use Rattle.run_sheets.specs.declared.request.SheetRequest.TheVariants as sheets
use Rattle.run_sheets.specs.declared.request.SheetRow.{SheetRow}

-- the text of a report on filings and their stamps, the newest first of both
abbrev pub report_on : ReportRequest → List Filing → List Stamp → List ℕ
report_on (reports.Standing of) past stamps = standing_report past of.year
report_on (reports.Awards of) past stamps = award_report past of.year
report_on (reports.Returns of) past stamps = return_report past of.year
report_on reports.Lifetime past stamps = lifetime_report past
report_on reports.Stamps past stamps = stamp_report (reverse stamps)
report_on reports.Seal past stamps = seal_report past stamps
report_on reports.Seals past stamps = seals_report past stamps
report_on (reports.Export of) past stamps = export_text past stamps of.year

-- the text of a request on them; the line of the seal stands behind what is shown to people, of a book as a comment, and not behind
-- CSV and reports, which scripts read
abbrev pub sheet_on : SheetRequest → List Filing → List Stamp → List ℕ
sheet_on sheets.List past stamps = list_sheet past stamps ++ seal_report past stamps
sheet_on (sheets.Student of) past stamps = student_sheet of.student past stamps ++ seal_report past stamps
sheet_on (sheets.Need of) past stamps = need_sheet past of.student of.year ++ seal_report past stamps
sheet_on (sheets.Review of) past stamps = review_sheet past stamps of.student of.year ++ seal_report past stamps
sheet_on (sheets.Quotes of) past stamps = quotes_sheet past of.school of.year of.term
sheet_on (sheets.Payments of) past stamps = payments_sheet of.school of.year of.term past stamps
sheet_on (sheets.Withdrawal of) past stamps = return_sheet past of.school of.student of.year of.term ++ seal_report past stamps
sheet_on (sheets.Due of) past stamps = due_sheet of.day of.school past
sheet_on (sheets.Returns of) past stamps = returns_sheet of.school of.year past
sheet_on (sheets.Book of) past stamps = book_sheet past (reverse stamps) of.year ++ codes "# " ++ seal_report past stamps
sheet_on (sheets.Report report) past stamps = report_on report past stamps

-- the text of a request on a list
abbrev pub sheet_of : SheetRequest → List (StampedEntry Filing) → List ℕ
sheet_of request past = sheet_on request (entries past) (stamps_of past)

-- the list as it stood when so many filings were on it
abbrev pub first_of : ℕ → List (StampedEntry Filing) → List (StampedEntry Filing)
first_of front past = drop (length past - front) past

-- the text on the whole list, or on it as it stood when its newest filing was at a position; `none` where there are fewer
abbrev pub sheet_upto : Option Position → SheetRequest → List (StampedEntry Filing) → List ℕ
sheet_upto None request past = sheet_of request past
sheet_upto (Some position) request past = if nat_le position.number (length past) then sheet_of request (first_of position.number past) else codes "none\n"

-- the text of a row on a list, its newest filing first
abbrev pub sheet_text : SheetRow → List (StampedEntry Filing) → List ℕ
sheet_text row past = sheet_upto row.upto row.request past
