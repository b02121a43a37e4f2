-- What an honest connection tells of itself.
use Rattle.std.specs.Prelude.{◌≡◌, ◌++◌, ℕ, Bool, List, IsTrue}

pub record ConnectionState : Type 0 where
  -- whether the rest is so; what a link that isn't honest tells means nothing
  pub honest : Bool
  -- the bytes that reads will give from here on
  pub left : List ℕ
  -- the text that was written
  pub text : List ℕ

abbrev pub IsHonest : ConnectionState → Type 0
IsHonest t = IsTrue t.honest

-- the text is a front of these bytes
abbrev pub IsPrefix : List ℕ → List ℕ → Type 0
IsPrefix text whole = (rest : List ℕ) × (whole ≡ text ++ rest)

-- a front of these bytes was appended
abbrev pub AppendsFront : List ℕ → List ℕ → List ℕ → Type 0
AppendsFront old new bytes = (front : List ℕ) × IsPrefix front bytes × (new ≡ old ++ front)
