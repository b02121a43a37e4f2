use Rattle.std.proofs.Common.{drop, arith}
use Rattle.log_journal.proofs.Gathered.{sized}
use Rattle.log_journal.proofs.record.start_of.Goals as goal

pub returns-else-size-gt-CAPACITY-clause-start : goal.returns-else-size-gt-CAPACITY-clause-start
returns-else-size-gt-CAPACITY-clause-start c file same =
    let n = c.from_le_bytes-size.result in
    let size = c.if-size-gt-CAPACITY.false in
    (drop 5 file, omega arith, size.1, sized c.args.front.now file n c.if-front-lt5.false c.if-front-ne1.false (λ i. omega (arith, c.type_inv.front i)) c.from_le_bytes-size.ensures same)
