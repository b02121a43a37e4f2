-- What the search for a key tells of the looks that were counted.
use Rattle.std.proofs.Common.{◌≡◌, ◌≢◌, ℕ, zero, suc, ◌+◌, ◌≤◌, refl, ap, arith, Option, Some, None}
use Rattle.std.specs.Prelude.{IfSome}
use Rattle.office_index.specs.Index.{position_of, position_or}

-- where no position is told there is no row
pub position_none : (o : Option ℕ) (n : ℕ) → o ≡ position_of n → position_or o ≡ 0 → o ≡ None
position_none o zero is none = is
position_none o (suc n) is none =
    let told : position_or o ≡ suc n = ap position_or is in
    absurd (omega arith)

-- where one is told the row was met
pub some_met : (o : Option ℕ) (old new : ℕ) → IfSome o (λ n. old + 1 ≤ new) → position_or o ≢ 0 → old + 1 ≤ new
some_met None old new met some = absurd (some refl)
some_met (Some n) old new met some = met
