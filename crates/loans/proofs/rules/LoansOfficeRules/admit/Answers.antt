use Rattle.loans.specs.Ruling.{legal_loans_within}
use Rattle.loans.proofs.rules.LoansOfficeRules.admit.Goals as goal

pub admit-requires-clause-covered : goal.admit-requires-clause-covered
admit-requires-clause-covered c = (legal_loans_within c.args.index.now.history c.requires.legal.0).nets
