-- The end of a run over rows that was done.
use Rattle.std.proofs.Common.{◌≡◌, ℕ, List, [], ◌∷◌}
use Rattle.aid_filings.specs.declared.filing.Filing.{Filing}
use Rattle.aid_stamps.specs.declared.stamp.Stamp.{Stamp}
use Rattle.io_traits.specs.DiskState.{DiskState, EachMoment}
use Rattle.log_stamps.specs.declared.entry.StampedEntry.{StampedEntry}
use Rattle.run_claims.specs.Filed.{Row, Stops, between, within}
use Rattle.run_claims.specs.Office.{Recovers}

-- where no row is left, nothing was filed behind the rows that were answered
pub nothing_more : (stamp : Stamp) (past : List (StampedEntry Filing)) (number : ℕ) (old new : DiskState) (left : List Row) (text : List ℕ) → left ≡ [] → Stops stamp past number old new left text
    → EachMoment old new (λ file. Recovers file past)
nothing_more stamp past number old new left text e (between rows said cut fault moments) = moments
nothing_more stamp past number old new left text e (within row rows line said cut after answered moments stop) = absurd (let bad : ⊥ = cc in bad)
