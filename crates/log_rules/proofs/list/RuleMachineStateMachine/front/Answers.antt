use Rattle.std.proofs.Common.{arith, length, ◌≡◌, ◌≤◌, rules, vec_len}
use Rattle.log_rules.proofs.Few.{ruled_few}
use Rattle.log_rules.proofs.list.RuleMachineStateMachine.front.Goals as goal

pub overflow_cast-result : goal.overflow_cast-result
overflow_cast-result g c =
    let few : length c.self.inside.filings.items ≤ 200000 = ruled_few g.R.OfficeRules.ruling g.met.R.OfficeRules.full c.self.inside.filings.items c.self.invariant.0.legal in
    let same : vec_len c.self.inside.filings ≡ length c.self.inside.filings.items = search rules in
    omega (arith, c.len.ensures)

pub returns-clause-few : goal.returns-clause-few
returns-clause-few g c =
    let few : length c.self.inside.filings.items ≤ 200000 = ruled_few g.R.OfficeRules.ruling g.met.R.OfficeRules.full c.self.inside.filings.items c.self.invariant.0.legal in
    let same : vec_len c.self.inside.filings ≡ length c.self.inside.filings.items = search rules in
    omega (arith, c.len.ensures)
