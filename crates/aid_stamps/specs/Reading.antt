-- The first fault of bytes that begin with no stamp: the place of the first byte of the first field that is short or past its limit.
use Rattle.std.specs.Prelude.{◌≡◌, ◌≤◌, ℕ, List, ◌∷◌, ◌++◌, IsTrue, length}
use Rattle.aid_stamps.specs.Clerks.{is_clerk}
use Rattle.aid_stamps.specs.Stamps.{IsDay, day_bytes}

-- no name behind its count, which has place 4
pub data IsNoClerk (bytes : List ℕ) : ℕ → Type 0 where
  no_count : ((count : ℕ) (rest : List ℕ) → count ≤ 32 → bytes ≡ count ∷ rest → ⊥) → IsNoClerk bytes 4
  no_name : (count : ℕ) (rest : List ℕ) → count ≤ 32 → bytes ≡ count ∷ rest
      → ((name behind : List ℕ) → length name ≡ count → IsTrue (is_clerk name) → rest ≡ name ++ behind → ⊥) → IsNoClerk bytes 5

-- no day, or no name behind one
pub data IsNoStamp (bytes : List ℕ) : ℕ → Type 0 where
  no_day : ((day : ℕ) (rest : List ℕ) → IsDay day → bytes ≡ day_bytes day ++ rest → ⊥) → IsNoStamp bytes 0
  no_clerk : (day : ℕ) (rest : List ℕ) (place : ℕ) → IsDay day → bytes ≡ day_bytes day ++ rest → IsNoClerk rest place → IsNoStamp bytes place
