use Rattle.std.proofs.Common.{arith, ◌∙◌, sym}
use Rattle.web_session.proofs.EndWalk.{walk_end, walk_none}
use Rattle.web_session.proofs.scan.Scan.advance.Goals as goal

pub returns-then-ends-clause-end : goal.returns-then-ends-clause-end
returns-then-ends-clause-end c = walk_end c.loop-rest.self.state c.loop-rest.self.count c.args.bytes.now c.loop-rest.rest.now c.in-len1-up.len_at_least (sym c.ends.ensures ∙ c.if-ends.true) c.loop-rest.invariant.goes_on

pub returns-clause-end : goal.returns-clause-end
returns-clause-end c = walk_none c.loop-rest.self.state c.loop-rest.self.count c.args.bytes.now c.loop-rest.rest.now (let t = c.in_default.len_below in omega (arith, t)) c.loop-rest.invariant.goes_on
