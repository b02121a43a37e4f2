use Rattle.std.proofs.Common.{◌≡◌, ◌+◌, length, arith}
use Rattle.log_journal.specs.Ahead.{block_of}
use Rattle.log_journal.specs.Stands.{gate_place}
use Rattle.log_journal.proofs.Written.{torn_within, ahead_inside, lengthened_stands, lengthened_ahead, lengthened_moments}
use Rattle.log_journal.proofs.journal.Journal.lengthen.Goals as goal

pub write_at-requires : goal.write_at-requires
write_at-requires g c honest =
    let (header, (h, keep)) = c.requires.stands honest in
    let disk = c.args.self.now.disk in
    let reads = (g.D.Disk.tells disk).reads in
    let now = g.met.D.Disk.reads_as_image disk honest in
    omega (arith, keep.gate, c.block_size.ensures.size, ahead_inside header reads h c.args.self.now.ahead (keep.each reads now) (λ some. keep.ahead some reads now))

pub returns-then-is_err-clause-kept : goal.returns-then-is_err-clause-kept
returns-then-is_err-clause-kept g c honest header h keep =
    let self = c.args.self.now in
    let old = g.D.Disk.tells self.disk in
    let new = g.D.Disk.tells c.write_at.new.self in
    let at = self.gate + 1 + c.block_size.result in
    let place : at ≡ gate_place h + 1 + length (block_of self.ahead) = omega (arith, keep.gate, c.block_size.ensures.size) in
    let write = c.write_at.ensures.told honest in
    record {
      each = lengthened_stands header old new h self.ahead at 4096 place keep.each keep.ahead write;
      ahead = lengthened_ahead header old new h self.ahead at 4096 place keep.ahead write;
      decided = keep.decided;
      gate = keep.gate;
      count = keep.count;
    }

pub returns-then-is_err-clause-moments : goal.returns-then-is_err-clause-moments
returns-then-is_err-clause-moments g c honest header h keep =
    let self = c.args.self.now in
    let at = self.gate + 1 + c.block_size.result in
    lengthened_moments header (g.D.Disk.tells self.disk) (g.D.Disk.tells c.write_at.new.self) h self.ahead at 4096
    (λ x since. g.met.D.Disk.only_now self.disk x honest since) (omega (arith, keep.gate, c.block_size.ensures.size)) keep.each keep.ahead (c.write_at.ensures.told honest)

pub returns-clause-kept : goal.returns-clause-kept
returns-clause-kept g c honest header h keep =
    let self = c.args.self.now in
    let old = g.D.Disk.tells self.disk in
    let new = g.D.Disk.tells c.write_at.new.self in
    let at = self.gate + 1 + c.block_size.result in
    let place : at ≡ gate_place h + 1 + length (block_of self.ahead) = omega (arith, keep.gate, c.block_size.ensures.size) in
    let write = c.write_at.ensures.told honest in
    record {
      each = lengthened_stands header old new h self.ahead at 4096 place keep.each keep.ahead write;
      ahead = lengthened_ahead header old new h self.ahead at 4096 place keep.ahead write;
      decided = keep.decided;
      gate = keep.gate;
      count = keep.count;
    }

pub returns-clause-moments : goal.returns-clause-moments
returns-clause-moments g c honest header h keep =
    let self = c.args.self.now in
    let at = self.gate + 1 + c.block_size.result in
    lengthened_moments header (g.D.Disk.tells self.disk) (g.D.Disk.tells c.write_at.new.self) h self.ahead at 4096
    (λ x since. g.met.D.Disk.only_now self.disk x honest since) (omega (arith, keep.gate, c.block_size.ensures.size)) keep.each keep.ahead (c.write_at.ensures.told honest)

pub returns-then-is_err-clause-within : goal.returns-then-is_err-clause-within
returns-then-is_err-clause-within g c honest header h keep end each room x now =
    let from = (c.write_at.ensures.told honest).images x now in
    torn_within from.0 x (c.args.self.now.gate + 1 + c.block_size.result) 4096 end (each from.0 from.1) (omega (arith, room, keep.gate, c.block_size.ensures.size)) from.2

pub returns-clause-within : goal.returns-clause-within
returns-clause-within g c honest header h keep end each room x now =
    let from = (c.write_at.ensures.told honest).images x now in
    torn_within from.0 x (c.args.self.now.gate + 1 + c.block_size.result) 4096 end (each from.0 from.1) (omega (arith, room, keep.gate, c.block_size.ensures.size)) from.2
