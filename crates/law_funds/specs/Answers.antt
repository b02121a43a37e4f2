-- What a policy of awards may be asked and may answer. Needs and awards are in whole dollars, an enrollment intensity in percent.
use Rattle.std.specs.Prelude.{ℕ, ◌/◌, ◌<◌, ◌≤◌, min, nat_lt, ℤ, if◌then◌else◌}
use Rattle.aid_types.specs.Ranges.{IsBetween, IsIndex}

-- the need, the Student Aid Index and the enrollment intensity of a candidate
pub record IsAsked (need : ℕ) (sai : ℤ) (intensity : ℕ) : Type 0 where
  pub need_fits : need ≤ 999999
  pub index_fits : IsIndex sai
  pub intensity_fits : IsBetween 1 100 intensity

-- no award, or one of 100 to 4,000 dollars and at most the need (HEA 413B(a)(2); 34 CFR 676.20)
abbrev pub IsAnswer : ℕ → ℕ → Type 0
IsAnswer need award = 0 < award → IsBetween 100 4000 award × (award ≤ need)

-- A rule of awards, by when it may be called and what a call may give: it may be asked of any candidate, and each of its answers
-- is no award or one in range.
pub record IsAwardRule (may : ℕ → ℤ → ℕ → Type 0) (gives : ℕ → ℤ → ℕ → ℕ → Type 0) : Type 0 where
  pub callable : (need : ℕ) (sai : ℤ) (intensity : ℕ) → IsAsked need sai intensity → may need sai intensity
  pub answers : (need : ℕ) (sai : ℤ) (intensity award : ℕ) → IsAsked need sai intensity → gives need sai intensity award → IsAnswer need award

-- an amount from 100 dollars on, else nothing
abbrev pub least : ℕ → ℕ
least amount = if nat_lt amount 100 then 0 else amount

-- the level rule: up to 1,000 dollars of the need
abbrev pub level : ℕ → ℕ
level need = least (min need 1000)

-- the quarter rule: a quarter of the need, up to 4,000 dollars
abbrev pub quarter : ℕ → ℕ
quarter need = least (min (need / 4) 4000)
