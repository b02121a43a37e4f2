use Rattle.std.proofs.Common.{◌-◌, sym, arith}
use Rattle.law_terms.proofs.TermDays.{long_days-short, long_days-long}
use Rattle.law_terms.proofs.terms.long_break_days.Goals as goal

pub returns-then-to-from : goal.returns-then-to-from
returns-then-to-from c = sym (long_days-short (c.args.from, c.args.to) c.args.first (c.args.end - c.args.first) (omega arith))

pub returns : goal.returns
returns c =
    let long = long_days-long (c.args.from, c.args.to) c.args.first (c.args.end - c.args.first) c.requires.started (omega arith) in
    omega (arith, long, c.requires.span, c.min.ensures, c.saturating_sub.ensures)
