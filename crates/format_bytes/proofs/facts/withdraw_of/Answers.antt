use Rattle.std.proofs.Common.{◌≡◌, length, refl, drop, arith}
use Rattle.format_kinds.specs.Kinds.{withdraw_slots}
use Rattle.format_bytes.specs.Parts.{cents_slots}
use Rattle.format_bytes.proofs.Slots.{as_many, fit_parted, same_limits}
use Rattle.format_bytes.proofs.facts.withdraw_of.Goals as goal

pub split_at-requires : goal.split_at-requires
split_at-requires c =
    let many : length c.args.numbers.now ≡ 12 = as_many withdraw_slots c.requires.in_range.0 c.args.numbers.now refl c.requires.in_range.1 in
    omega (arith, many)

pub could_of-requires : goal.could_of-requires
could_of-requires c =
    let behind = (fit_parted 6 withdraw_slots c.args.numbers.now refl c.requires.in_range).1 in
    record { in_range = rw c.split_at.ensures.back (behind.0, same_limits (drop 6 withdraw_slots) (cents_slots 6) behind.0 (drop 6 c.args.numbers.now) refl refl refl behind.1) }

pub withdrawal_of-requires-clause-in_range : goal.withdrawal_of-requires-clause-in_range
withdrawal_of-requires-clause-in_range c = rw c.split_at.ensures.front (fit_parted 6 withdraw_slots c.args.numbers.now refl c.requires.in_range).0
