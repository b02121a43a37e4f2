use Rattle.std.proofs.Common.{arith}
use Rattle.law_work.proofs.Funds.{fund_written}
use Rattle.law_work.proofs.written.write_fund.Goals as goal

pub returns : goal.returns
returns c = record {
  rows = λ past releases is told.
      fund_written past c.args.filing.now.key c.args.filing.now.what c.args.name c.args.row _ _ releases c.requires.name c.set.ensures.values is told;
  room = grind (arith, c.set.ensures.room);
}
