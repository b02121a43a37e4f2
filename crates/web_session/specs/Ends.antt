-- Where the head block of a request ends: with the first LF that stands after a byte that is neither CR nor LF, and
-- directly after another LF, or after an LF and one CR. Own rule, as RFC 9112 (2.2) lets a server read lines.
use Rattle.std.specs.Prelude.{◌≡◌, ℕ, Bool, true, false, ◌==◌, ◌+◌, ◌<◌, ◌≤◌, ◌⊎◌, ◌||◌, if◌then◌else◌, List, [], ◌∷◌, ◌++◌, length, take, drop, Option, None, Some}
use Rattle.web_session.specs.declared.head_state.HeadState.{HeadState}
use Rattle.web_session.specs.declared.head_state.HeadState.TheVariants.{Before, Within, AfterFeed, AfterReturn}

-- whether there is a byte that is neither CR nor LF
abbrev pub has_begun : List ℕ → Bool
has_begun [] = false
has_begun (b ∷ rest) = if (b == 13) || (b == 10) then has_begun rest else true

-- bytes that end as a head block does
abbrev pub IsEnded : List ℕ → Type 0
IsEnded bytes = (front : List ℕ) × (has_begun front ≡ true) × ((bytes ≡ front ++ (10 ∷ 10 ∷ [])) ⊎ (bytes ≡ front ++ (10 ∷ 13 ∷ 10 ∷ [])))

-- the first k bytes end so, and no fewer of them do
pub record IsFirstEnd (bytes : List ℕ) (k : ℕ) : Type 0 where
  pub within : k ≤ length bytes
  pub ended : IsEnded (take k bytes)
  pub first : (j : ℕ) → j < k → ¬ IsEnded (take j bytes)

-- The walk that finds this k. `head_end-first` and `head_end-none` of proofs/EndLaws say that `head_end` is the first end,
-- and `None` exactly where there is none.

-- the state after a byte
abbrev pub next_state : HeadState → ℕ → HeadState
next_state Before b = if (b == 13) || (b == 10) then Before else Within
next_state Within b = if b == 10 then AfterFeed else Within
next_state AfterFeed b = if b == 13 then AfterReturn else (if b == 10 then AfterFeed else Within)
next_state AfterReturn b = if b == 10 then AfterFeed else Within

-- whether a head block ends with this byte
abbrev pub ends_at : HeadState → ℕ → Bool
ends_at Before b = false
ends_at Within b = false
ends_at AfterFeed b = b == 10
ends_at AfterReturn b = b == 10

-- where the first head block ends, for bytes that go on at a state with n bytes before them
abbrev pub end_from : HeadState → ℕ → List ℕ → Option ℕ
end_from state n [] = None
end_from state n (b ∷ rest) = if ends_at state b then Some (n + 1) else end_from (next_state state b) (n + 1) rest

abbrev pub head_end : List ℕ → Option ℕ
head_end bytes = end_from Before 0 bytes

-- no head block ends in the first n bytes, and behind them the bytes go on at this state
pub record IsScanned (state : HeadState) (n : ℕ) (bytes : List ℕ) : Type 0 where
  pub within : n ≤ length bytes
  pub goes_on : (more : List ℕ) → head_end (bytes ++ more) ≡ end_from state n (drop n bytes ++ more)
