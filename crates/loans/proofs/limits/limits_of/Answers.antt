use Rattle.std.proofs.Common.{arith}
use Rattle.loans.proofs.Fit.{limits_parted}
use Rattle.loans.proofs.limits.limits_of.Goals as goal

pub split_at-requires : goal.split_at-requires
split_at-requires c = let p = limits_parted c.args.numbers.now c.requires.in_range in omega (arith, p.many)

pub split_at-requires-2 : goal.split_at-requires-2
split_at-requires-2 c = let p = limits_parted c.args.numbers.now c.requires.in_range in omega (arith, p.many, c.split_at.ensures.back_len)

pub year_and_sub-year-requires : goal.year_and_sub-year-requires
year_and_sub-year-requires c =
    let p = limits_parted c.args.numbers.now c.requires.in_range in
    record { in_range = rw c.split_at.ensures.front p.front }

pub annual_of-graduate-requires : goal.annual_of-graduate-requires
annual_of-graduate-requires c =
    let p = limits_parted c.args.numbers.now c.requires.in_range in
    record { in_range = rw (c.split_at-2.ensures.front, c.split_at.ensures.back) p.middle }

pub aggregate_of-requires : goal.aggregate_of-requires
aggregate_of-requires c =
    let p = limits_parted c.args.numbers.now c.requires.in_range in
    record { in_range = rw (c.split_at-2.ensures.back, c.split_at.ensures.back) p.last }
