use Rattle.std.proofs.Common.{drop, ◌∙◌, arith}
use Rattle.log_journal.specs.Piece.{Reaches, ahead}
use Rattle.log_journal.proofs.Pieces.{front_of}
use Rattle.log_journal.proofs.record.read_start.Goals as goal

pub returns-clause-start : goal.returns-clause-start
returns-clause-start g c honest =
    let file = drop c.args.gate (g.D.Disk.tells c.args.disk.now).reads in
    let there : Reaches c.reach.new.self c.args.gate 5 (g.D.Disk.tells c.args.disk.now).reads = c.in_ok-reach.ensures.reached honest in
    c.start_of.ensures.start file (c.part.ensures ∙ front_of there.0 5 5 (ahead c.reach.new.self c.args.gate) file (omega arith) there.1 there.2)
