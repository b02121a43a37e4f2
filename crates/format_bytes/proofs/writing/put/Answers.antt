use Rattle.std.proofs.Common.{arith}
use Rattle.format_bytes.proofs.FilingLaws.{is_alone, length-spelling}
use Rattle.format_bytes.proofs.writing.put.Goals as goal

pub returns-clause-fits : goal.returns-clause-fits
returns-clause-fits c = omega (arith, length-spelling c.args.filing.now c.put_parts.ensures.is_filing)

pub returns-clause-alone : goal.returns-clause-alone
returns-clause-alone c = λ other rest within e. is_alone c.args.filing.now other rest c.put_parts.ensures.is_filing within e
