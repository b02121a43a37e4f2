use Rattle.std.proofs.Common.{rules}
use Rattle.office_history.specs.Past.{school_in}
use Rattle.office_plain.proofs.plain.PlainHistory.school_of.Goals as goal

pub returns-clause-position : goal.returns-clause-position
returns-clause-position c = c.first.ensures.position (λ f. school_in c.args.code f.what) (λ x r k. search rules)
