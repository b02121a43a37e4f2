use Rattle.aid_stamps.proofs.Faults.{no_bytes, past_limit, too_short, no_clerk_bytes}
use Rattle.aid_stamps.proofs.stamp.clerk_at.Goals as goal

pub returns-in_default-clause-place : goal.returns-in_default-clause-place
returns-in_default-clause-place c = no_bytes c.args.bytes.now c.in_default.len_below

pub returns-then-count-gt32-clause-place : goal.returns-then-count-gt32-clause-place
returns-then-count-gt32-clause-place c = past_limit c.args.bytes.now c.if-count-gt32.true

pub returns-then-rest-count-clause-place : goal.returns-then-rest-count-clause-place
returns-then-rest-count-clause-place c = too_short c.args.bytes.now c.in-len1-up.len_at_least c.if-count-gt32.false c.if-rest-count.true

pub returns-in-None-clause-place : goal.returns-in-None-clause-place
returns-in-None-clause-place c =
    no_clerk_bytes c.args.bytes.now c.split_at.result.0.now c.in-len1-up.len_at_least c.if-count-gt32.false c.split_at.ensures.front c.in-None.ensures.some.1
