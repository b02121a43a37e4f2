use Rattle.std.proofs.Common.{arith}
use Rattle.log_journal.proofs.Pieces.{past_end}
use Rattle.log_journal.proofs.piece.Piece.none.Goals as goal

pub returns : goal.returns
returns c file small = past_end 4096 18446744073709551615 file (omega arith)
