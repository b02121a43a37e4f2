use Rattle.law_terms.proofs.Cents.{cents_are}
use Rattle.law_terms.proofs.units.most_cents.Goals as goal

pub returns : goal.returns
returns c = λ cents. rw (c.from.ensures, c.from-2.ensures) (cents_are c.args.scheduled c.args.units cents c.requires.awarded)
