use Rattle.law_sai.specs.Formulas.{formula}
use Rattle.sheet_need.proofs.Adding.{households}
use Rattle.sheet_need.proofs.laws.households_add_up.Goals as goal

pub returns : goal.returns
returns c = households (formula c.args.book.now c.args.a.now) c.args.book.now c.args.a.now
