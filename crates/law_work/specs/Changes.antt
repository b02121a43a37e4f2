-- What a filing makes of the rows that it is about.
use Rattle.std.specs.Prelude.{ℕ, ◌+◌, ◌-◌, ◌==◌, ◌≤◌, if◌then◌else◌, Bool, List}
use Rattle.law_work.specs.declared.filing.WorkFiling.{WorkFiling}
use Rattle.law_work.specs.declared.filing.WorkWhat.{WorkWhat}
use Rattle.law_work.specs.declared.filing.WorkWhat.TheVariants.{Fund, Award, Earn, Release}
use Rattle.law_work.specs.Funds.{Place, awarded, earlier_or, earning, released}
use Rattle.law_work.specs.declared.rows.AwardRow.{AwardRow}
use Rattle.law_work.specs.declared.rows.FundRow.{FundRow}

-- a fund, with a filing at a position that is about it
abbrev pub fund_after : ℕ → WorkWhat → FundRow → FundRow
fund_after at (Fund x) row = record { at = earlier_or row.at at; dollars = if row.at == 0 then x.dollars else row.dollars; awards = row.awards }
fund_after at (Award a) row = record { at = row.at; dollars = row.dollars; awards = row.awards + a.dollars }
fund_after at (Earn e) row = row
fund_after at (Release a) row = record { at = row.at; dollars = row.dollars; awards = row.awards - a.dollars }

-- an award, with a filing at a position that is about it
abbrev pub award_after : ℕ → WorkWhat → AwardRow → AwardRow
award_after at (Fund x) row = row
award_after at (Award a) row = record { at = earlier_or row.at at; award = row.award + a.dollars; earned = row.earned }
award_after at (Earn e) row = record { at = row.at; award = row.award; earned = row.earned + earning e }
award_after at (Release a) row = record { at = row.at; award = row.award - a.dollars; earned = row.earned }

-- at no places more is released than was awarded
abbrev pub HasReleases : List WorkFiling → Type 0
HasReleases past = (test : Place → Bool) → released past test ≤ awarded past test
