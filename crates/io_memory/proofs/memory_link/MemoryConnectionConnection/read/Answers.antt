use Rattle.std.proofs.Common.{rules}
use Rattle.io_memory.proofs.PieceReads.{piece_read}
use Rattle.io_memory.proofs.memory_link.MemoryConnectionConnection.read.Goals as goal

pub returns-clause-bytes : goal.returns-clause-bytes
returns-clause-bytes c =
    piece_read c.read.result c.min-most.result c.args.self.now.feed.left c.read.new.self.left c.args.buffer.now c.read.new.buffer (search rules) (search rules) (search rules)
