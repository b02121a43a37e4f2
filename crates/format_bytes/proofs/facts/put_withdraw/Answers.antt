use Rattle.std.proofs.Common.{ℕ, List, drop, refl, subst, take}
use Rattle.format_kinds.specs.Kinds.{withdraw_slots}
use Rattle.format_bytes.specs.Parts.{FitAnywhere, could_numbers, withdrawal_numbers}
use Rattle.format_bytes.proofs.Slots.{fit_joined}
use Rattle.format_bytes.proofs.facts.put_withdraw.Goals as goal

pub returns-clause-in_range : goal.returns-clause-in_range
returns-clause-in_range c =
    let could = subst (λ (cents : List ℕ). FitAnywhere (drop 6 withdraw_slots) (could_numbers cents)) c.cents.ensures c.put_could.ensures.in_range in
    fit_joined (take 6 withdraw_slots) (drop 6 withdraw_slots) (withdrawal_numbers c.args.facts.now) (could_numbers c.args.facts.now.could) refl c.put_withdrawal.ensures.in_range could
