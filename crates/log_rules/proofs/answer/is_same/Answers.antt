use Rattle.log_rules.proofs.Told.{same_told}
use Rattle.log_rules.proofs.answer.is_same.Goals as goal

pub returns : goal.returns
returns g c =
    same_told g.R.OfficeRules.ruling g.R.KindTable.key g.R.KindTable.kinds g.R.EntryCodec.code_of g.R.EntryCodec.numbers_of g.met.R.OfficeRules.rows c.args.one.now c.args.other.now c.is_same.result c.is_same.ensures
