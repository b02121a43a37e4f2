use Rattle.log_rules.proofs.Stays.{again_is}
use Rattle.log_rules.proofs.laws.again.Goals as goal

pub returns : goal.returns
returns g c newer past f outcome is = again_is g.R.OfficeRules.ruling f (g.met.R.OfficeRules.rows.same_self f) newer past outcome is
