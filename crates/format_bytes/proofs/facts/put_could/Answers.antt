use Rattle.format_bytes.proofs.Could.{could_fit}
use Rattle.format_bytes.proofs.facts.put_could.Goals as goal

pub returns-clause-in_range : goal.returns-clause-in_range
returns-clause-in_range c = could_fit c.args.could.now c.told-could c.requires.cents
