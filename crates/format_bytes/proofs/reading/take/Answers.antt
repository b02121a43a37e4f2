use Rattle.std.proofs.Common.{arith}
use Rattle.format_bytes.proofs.FilingLaws.{is_for_book, is_found, is_only}
use Rattle.format_bytes.proofs.reading.take.Goals as goal

pub returns-clause-found : goal.returns-clause-found
returns-clause-found c = is_found c.args.bytes.now c.filing_in.result (λ i. omega (arith, c.type_inv.bytes i)) c.filing_in.ensures.exact

pub returns-clause-only : goal.returns-clause-only
returns-clause-only c = is_only c.args.bytes.now c.filing_in.result c.filing_in.ensures.exact

pub returns-clause-memory : goal.returns-clause-memory
returns-clause-memory c = is_for_book c.args.bytes.now c.filing_in.result (λ i. omega (arith, c.type_inv.bytes i)) c.filing_in.ensures.exact
