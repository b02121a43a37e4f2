use Rattle.std.proofs.Common.{take, replicate, rules}
use Rattle.log_journal.proofs.Heads.{head_of_front}
use Rattle.log_journal.proofs.Pieces.{given}
use Rattle.log_journal.proofs.head.look.Goals as goal

pub returns-clause-head : goal.returns-clause-head
returns-clause-head g c honest =
    let reads = (g.D.Disk.tells c.args.disk.now).reads in
    head_of_front c.args.header reads (take c.in_ok-n.n c.read_at.new.buf) c.head_of.result
    (given reads 0 c.in_ok-n.n 18 (replicate 18 0) c.read_at.new.buf (search rules) (c.in_ok-n.ensures.bytes honest)) c.head_of.ensures
