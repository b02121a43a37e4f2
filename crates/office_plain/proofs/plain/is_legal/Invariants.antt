use Rattle.std.proofs.Common.{reverse, take}
use Rattle.office_history.specs.Answer.{IsLegal}
use Rattle.office_plain.proofs.plain.is_legal.Given as goal

abbrev pub invariant-loop-index : goal.invariant-loop-index
invariant-loop-index l = IsLegal (reverse (take l.index l.filings))
