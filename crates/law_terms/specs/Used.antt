-- Lifetime eligibility used (HEA 401(d)(5); Federal Student Aid Handbook, Pell lifetime eligibility used). A full Scheduled
-- Award is 100 percent, 100,000 units. The rounding to a whole unit is the office's own.
use Rattle.std.specs.Prelude.{ℕ, zero, suc, ◌*◌}
use Rattle.aid_types.specs.Nearest.{half_up}

-- the units that so many net cents of a Scheduled Award in dollars use: nothing where nothing is paid
unfoldable pub use_of : ℕ → ℕ → ℕ
use_of zero scheduled = 0
use_of (suc cents) scheduled = half_up (suc cents * 1000) scheduled
