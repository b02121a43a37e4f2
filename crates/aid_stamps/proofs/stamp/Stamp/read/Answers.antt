use Rattle.aid_stamps.proofs.Faults.{no_day_bytes, no_such_day, no_clerk_behind, no_stamp_there}
use Rattle.aid_stamps.proofs.stamp.Stamp.read.Goals as goal

pub returns-in_default-clause-place : goal.returns-in_default-clause-place
returns-in_default-clause-place c = no_day_bytes c.args.bytes.now c.in_default.len_below

pub returns-in_default-day_at-clause-place : goal.returns-in_default-day_at-clause-place
returns-in_default-day_at-clause-place c = no_such_day c.args.bytes.now (c.day_at.ensures.none c.in_default-day_at.is)

pub returns-in-Err-clause-place : goal.returns-in-Err-clause-place
returns-in-Err-clause-place c =
    let found = c.in-Some.ensures.some in
    no_clerk_behind c.args.bytes.now c.in-Some.day c.in-Err.place c.in-len4-up.len_at_least found.0 found.1 c.in-Err.ensures.place

pub returns-in-Err-clause-only : goal.returns-in-Err-clause-only
returns-in-Err-clause-only c stamp rest is e =
    let found = c.in-Some.ensures.some in
    absurd (no_stamp_there c.args.bytes.now rest c.in-Err.place stamp
    (no_clerk_behind c.args.bytes.now c.in-Some.day c.in-Err.place c.in-len4-up.len_at_least found.0 found.1 c.in-Err.ensures.place) is e)
