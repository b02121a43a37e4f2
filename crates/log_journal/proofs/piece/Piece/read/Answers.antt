use Rattle.std.proofs.Common.{take, rules, arith}
use Rattle.log_journal.proofs.Pieces.{past_end, inside, given}
use Rattle.log_journal.proofs.piece.Piece.read.Goals as goal

pub returns-in_err-self-clause-piece : goal.returns-in_err-self-clause-piece
returns-in_err-self-clause-piece g c honest =
    let bound = g.met.D.Disk.bounded c.args.disk.now honest in
    past_end 4096 18446744073709551615 (g.D.Disk.tells c.args.disk.now).reads (omega (arith, bound))

pub returns-clause-piece : goal.returns-clause-piece
returns-clause-piece g c honest =
    given (g.D.Disk.tells c.args.disk.now).reads c.args.at c.in_ok-self.field-0 4096 c.args.self.now.bytes c.read_at.new.buf (search rules) (c.in_ok-self.ensures.bytes honest)

pub returns-clause-reached : goal.returns-clause-reached
returns-clause-reached g c honest =
    let reads = (g.D.Disk.tells c.args.disk.now).reads in
    let at = c.args.at in
    inside (take c.in_ok-self.field-0 c.read_at.new.buf) reads at at 4096 4096 (omega arith) (omega arith)
    (given reads at c.in_ok-self.field-0 4096 c.args.self.now.bytes c.read_at.new.buf (search rules) (c.in_ok-self.ensures.bytes honest))
