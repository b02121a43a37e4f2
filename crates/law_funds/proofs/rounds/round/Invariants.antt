use Rattle.std.proofs.Common.{◌++◌, drop, ℕ, ℤ, List}
use Rattle.law_funds.specs.Rounds.{IsRound}
use Rattle.law_funds.proofs.rounds.round.Given as goal

-- whatever round of the other candidates follows, the whole is one
abbrev pub invariant-loop-candidate : goal.invariant-loop-candidate
invariant-loop-candidate g l =
    let gives : ℕ → ℤ → ℕ → ℕ → Type 0 = λ need sai intensity answer. (goal.Fn-dyn g).post (l.policy.rule.vtable, l.policy.rule.value) (need, (sai, (intensity, tt))) answer in
    (rest : List ℕ) (last : ℕ) → IsRound gives l.left (drop l.candidate-index l.list) rest last → IsRound gives l.fn.fund l.fn.list (l.awards.items ++ rest) last
