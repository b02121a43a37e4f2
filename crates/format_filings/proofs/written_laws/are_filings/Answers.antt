use Rattle.std.proofs.Common.{All, subst}
use Rattle.std.proofs.lemmas.List.{take_all}
use Rattle.std.proofs.lemmas.List.Elements.{All-more}
use Rattle.format_bytes.specs.Numbers.{IsFiling}
use Rattle.format_filings.proofs.written_laws.are_filings.Goals as goal

pub loop-filing-preserved : goal.loop-filing-preserved
loop-filing-preserved c =
    All-more IsFiling c.args.filings.now c.loop-filing.filing-index c.filing-item.result c.loop-filing-test.true c.loop-filing.invariant (subst IsFiling c.filing-item.is c.numbers_in-numbers.ensures.in_range)

pub returns : goal.returns
returns c = subst (All IsFiling) (take_all c.loop-filing.filing-index c.args.filings.now c.loop-filing-test.false) c.loop-filing.invariant
