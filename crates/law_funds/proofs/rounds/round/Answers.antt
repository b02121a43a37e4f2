use Rattle.std.proofs.Common.{ℕ, ℤ, drop}
use Rattle.std.proofs.lemmas.List.{drop_all}
use Rattle.law_funds.proofs.Rounded.{round-count, round-whole, round-within, round-begin, round-step, round-end}
use Rattle.law_funds.proofs.rounds.round.Goals as goal

pub loop-candidate-init : goal.loop-candidate-init
loop-candidate-init g c =
    let rule = c.args.policy.now.rule in
    let gives : ℕ → ℤ → ℕ → ℕ → Type 0 = λ need sai intensity answer. (goal.Fn-dyn g).post (rule.vtable, rule.value) (need, (sai, (intensity, tt))) answer in
    round-begin gives c.args.fund c.args.list.now c.in_ok-awards.awards.items c.in_ok-awards.ensures.items

pub loop-candidate-preserved : goal.loop-candidate-preserved
loop-candidate-preserved g c =
    let rule = c.args.policy.now.rule in
    let gives : ℕ → ℤ → ℕ → ℕ → Type 0 = λ need sai intensity answer. (goal.Fn-dyn g).post (rule.vtable, rule.value) (need, (sai, (intensity, tt))) answer in
    round-step gives c.args.fund c.args.list.now c.loop-candidate.left c.loop-candidate.candidate-index c.loop-candidate.awards.items c.push.new.self.items
    c.candidate-item.result c.award-award.result c.loop-candidate-test.true c.candidate-item.is c.in_ok-push.ensures.items c.loop-candidate.invariant
    c.award-award.ensures.award

pub returns-clause-round : goal.returns-clause-round
returns-clause-round g c =
    let rule = c.args.policy.now.rule in
    let gives : ℕ → ℤ → ℕ → ℕ → Type 0 = λ need sai intensity answer. (goal.Fn-dyn g).post (rule.vtable, rule.value) (need, (sai, (intensity, tt))) answer in
    round-end gives c.args.fund c.args.list.now c.loop-candidate.left (drop c.loop-candidate.candidate-index c.args.list.now) c.loop-candidate.awards.items
    (drop_all _ _ c.loop-candidate-test.false) c.loop-candidate.invariant

pub returns-clause-count : goal.returns-clause-count
returns-clause-count g c =
    let rule = c.args.policy.now.rule in
    let gives : ℕ → ℤ → ℕ → ℕ → Type 0 = λ need sai intensity answer. (goal.Fn-dyn g).post (rule.vtable, rule.value) (need, (sai, (intensity, tt))) answer in
    round-count gives c.args.fund c.args.list.now c.loop-candidate.awards.items c.loop-candidate.left (returns-clause-round g c)

pub returns-clause-whole : goal.returns-clause-whole
returns-clause-whole g c =
    let rule = c.args.policy.now.rule in
    let gives : ℕ → ℤ → ℕ → ℕ → Type 0 = λ need sai intensity answer. (goal.Fn-dyn g).post (rule.vtable, rule.value) (need, (sai, (intensity, tt))) answer in
    round-whole gives c.args.fund c.args.list.now c.loop-candidate.awards.items c.loop-candidate.left (returns-clause-round g c)

pub returns-clause-within : goal.returns-clause-within
returns-clause-within g c =
    let rule = c.args.policy.now.rule in
    let gives : ℕ → ℤ → ℕ → ℕ → Type 0 = λ need sai intensity answer. (goal.Fn-dyn g).post (rule.vtable, rule.value) (need, (sai, (intensity, tt))) answer in
    round-within gives c.args.policy.now.is_rule.answers c.args.fund c.args.list.now c.loop-candidate.awards.items c.loop-candidate.left (returns-clause-round g c)
