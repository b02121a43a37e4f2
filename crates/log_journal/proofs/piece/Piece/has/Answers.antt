use Rattle.std.proofs.Common.{◌+◌, ◌-◌, ◌≤◌, take, arith}
use Rattle.std.proofs.lemmas.Bool.{leb-true}
use Rattle.log_journal.proofs.Pieces.{inside, to_end}
use Rattle.std.proofs.lemmas.List.{length-take}
use Rattle.log_journal.proofs.piece.Piece.has.Goals as goal

pub returns-then-self-lt-PIECE : goal.returns-then-self-lt-PIECE
returns-then-self-lt-PIECE c file true_so is =
    let piece = c.args.self.now in
    let short = c.if-self-lt-PIECE.true in
    to_end (take piece.len piece.bytes) file piece.start c.args.at c.args.need 4096 c.if-self-at.true (omega (arith, short, length-take piece.len piece.bytes)) is

pub returns-else-self-lt-PIECE : goal.returns-else-self-lt-PIECE
returns-else-self-lt-PIECE c file true_so is =
    let piece = c.args.self.now in
    inside (take piece.len piece.bytes) file piece.start c.args.at c.args.need 4096 c.if-self-at.true (let fits : c.args.at - piece.start + c.args.need ≤ piece.len = leb-true (c.args.at - piece.start + c.args.need) piece.len true_so in omega (arith, fits, piece.fits)) is
