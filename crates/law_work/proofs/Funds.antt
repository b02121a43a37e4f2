-- What a filing makes of the rows of funds: it changes the row that it is about, and no other.
use Rattle.std.proofs.Common.{◌≡◌, ◌+◌, List, ◌∷◌, length, arith}
use Rattle.std.specs.Prelude.{◌==◌, ◌&&◌, if◌then◌else◌}
use Rattle.aid_types.specs.declared.number.Key.{Key}
use Rattle.sorted_rows.specs.Places.{IsWritten}
use Rattle.law_work.specs.declared.filing.WorkFiling.{WorkFiling}
use Rattle.law_work.specs.declared.filing.WorkWhat.{WorkWhat}
use Rattle.law_work.specs.declared.filing.WorkWhat.TheVariants.{Fund, Award, Earn, Release}
use Rattle.law_work.specs.Funds.{in_fund}
use Rattle.law_work.specs.Rules.{year_of}
use Rattle.law_work.proofs.Standing.{no_fund}
use Rattle.law_work.specs.Changes.{HasReleases, fund_after}
use Rattle.law_work.specs.Rows.{AreFunds, fund_cmp, fund_row}
use Rattle.law_work.specs.declared.names.FundName.{FundName}
use Rattle.law_work.specs.declared.rows.FundRow.{FundRow}

-- what is on file of a fund with one filing more
pub fund_filed : (past : List WorkFiling) (key : Key) (what : WorkWhat) (name : FundName) → HasReleases past →
    fund_row (record { key = key; what = what } ∷ past) name
    ≡ (if (key.school == name.school) && (year_of what == name.year) then fund_after (length past + 1) what (fund_row past name) else fund_row past name)
fund_filed past key (Fund x) name releases = grind (arith, no_fund past name.school name.year, releases (in_fund name.school name.year))
fund_filed past key (Award a) name releases = grind (arith, no_fund past name.school name.year, releases (in_fund name.school name.year))
fund_filed past key (Earn e) name releases = grind (arith, no_fund past name.school name.year, releases (in_fund name.school name.year))
fund_filed past key (Release a) name releases = grind (arith, no_fund past name.school name.year, releases (in_fund name.school name.year))

-- a table tells it once the row that the filing is about is written
pub fund_written : (past : List WorkFiling) (key : Key) (what : WorkWhat) (of : FundName) (row : FundRow) (old new : List (FundName × FundRow)) →
    HasReleases past → of ≡ record { school = key.school; year = year_of what } → IsWritten fund_cmp of row old new →
    row ≡ fund_after (length past + 1) what (fund_row past of) →
    AreFunds past old → AreFunds (record { key = key; what = what } ∷ past) new
fund_written past key what of row old new releases named written is told name =
    grind (arith, fund_filed past key what name releases, told name, written name)
