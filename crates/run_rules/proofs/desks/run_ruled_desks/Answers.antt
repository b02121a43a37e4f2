use Rattle.log_machine.proofs.Histories.{recovers_once}
use Rattle.log_rules.specs.RowLaws.{alone}
use Rattle.log_rules.specs.Ruled.{scheme_of}
use Rattle.run_rules.proofs.desks.run_ruled_desks.Goals as goal

-- what is known of the rules in a thread is known here
pub returns-clause-within : goal.returns-clause-within
returns-clause-within g c file history is = (g.met.R.OfficeRules g.world.𝓛 g.world.𝓜 g.world.𝓡 ((λ s x. x), (λ x. x), (λ x. x), λ x. x)).legal_within history is.legal

pub returns-clause-one : goal.returns-clause-one
returns-clause-one g c file history other is also =
    let rules = g.met.R.OfficeRules g.world.𝓛 g.world.𝓜 g.world.𝓡 ((λ s x. x), (λ x. x), (λ x. x), λ x. x) in
    let table = g.met.R.KindTable g.world.𝓛 g.world.𝓜 g.world.𝓡 ((λ s x. x), (λ x. x), (λ x. x), λ x. x) in
    let entries = g.met.R.EntryCodec g.world.𝓛 g.world.𝓜 g.world.𝓡 ((λ s x. x), (λ x. x), (λ x. x), λ x. x) in
    recovers_once (scheme_of g.R.OfficeRules.ruling) (alone g.R.OfficeRules.ruling g.R.KindTable.key g.R.KindTable.kinds g.R.EntryCodec.code_of g.R.EntryCodec.numbers_of rules.rows table.sound entries.one) file history other is also

pub returns-clause-ran : goal.returns-clause-ran
returns-clause-ran g c = c.run_desks_on.ensures.ran
