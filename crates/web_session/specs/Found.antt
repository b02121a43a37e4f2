-- What reading finds in the bytes held.
use Rattle.std.specs.Prelude.{◌≡◌, ◌<◌, ◌≤◌, ◌++◌, ℕ, Bool, true, false, List, length, take, None, Some}
use Rattle.web_session.specs.Ends.{head_end}
use Rattle.web_session.specs.declared.pieces.Found.{Found}
use Rattle.web_session.specs.declared.pieces.Found.TheVariants.{End, TooLarge, InputEnded}

-- bytes came behind those held: at least one where there are more, and else none
pub record HasGrown (more : Bool) (old new : List ℕ) : Type 0 where
  pub got : List ℕ
  pub behind : new ≡ old ++ got
  pub some : more ≡ true → 0 < length got
  pub none : more ≡ false → new ≡ old

-- what was found of the head block
abbrev pub FindsIn : List ℕ → Found → Type 0
FindsIn held (End k) = (head_end (take 16384 held) ≡ Some k) × (k ≤ length held)
FindsIn held TooLarge = (head_end (take 16384 held) ≡ None) × (16384 ≤ length held)
FindsIn held InputEnded = (head_end (take 16384 held) ≡ None) × (length held < 16384)
