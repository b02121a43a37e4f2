-- The part of a file that is at hand.
use Rattle.std.specs.Prelude.{◌≡◌, ◌-◌, ◌≤◌, ℕ, List, take, drop}
use Rattle.log_journal.specs.declared.piece.Piece.{Piece}

-- its bytes from a place of the file on
abbrev pub ahead : Piece → ℕ → List ℕ
ahead piece at = drop (at - piece.start) (take piece.len piece.bytes)

-- It has what a read of 4,096 bytes at its start gives: the bytes that stand there, and fewer only where the file ends.
abbrev pub IsPieceOf : Piece → List ℕ → Type 0
IsPieceOf piece file = take piece.len piece.bytes ≡ take 4096 (drop piece.start file)

-- from that place on it has what a read of so many bytes gives there, or of more
abbrev pub Reaches : Piece → ℕ → ℕ → List ℕ → Type 0
Reaches piece at need file = (size : ℕ) × (need ≤ size) × (ahead piece at ≡ take size (drop at file))
