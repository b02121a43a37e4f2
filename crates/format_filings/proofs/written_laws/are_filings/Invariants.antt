use Rattle.std.proofs.Common.{All, take}
use Rattle.format_bytes.specs.Numbers.{IsFiling}
use Rattle.format_filings.proofs.written_laws.are_filings.Given as goal

abbrev pub invariant-loop-filing : goal.invariant-loop-filing
invariant-loop-filing l = All IsFiling (take l.filing-index l.filings)
