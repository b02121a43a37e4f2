-- How entries are given.
use Rattle.std.specs.Prelude.{◌≡◌, ℕ, List, ◌∷◌}

-- the first of the entries before is given by its spelling, and those behind it are left
pub record IsGiven {Entry : Type 0} (spelling : Entry → List ℕ) (IsEntry : Entry → Type 0) (before after : List Entry) (bytes : List ℕ) : Type 0 where
  pub entry : Entry
  pub first : before ≡ entry ∷ after
  pub spelled : bytes ≡ spelling entry
  pub in_range : IsEntry entry
