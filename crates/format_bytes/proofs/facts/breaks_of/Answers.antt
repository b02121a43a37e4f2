use Rattle.std.proofs.Common.{◌≡◌, pos, rules}
use Rattle.std.specs.Prelude.{slice_index_or}
use Rattle.format_bytes.specs.Numbers.{day_number}
use Rattle.format_bytes.proofs.Breaks.{all_read, next}
use Rattle.format_bytes.proofs.Slots.{all_of_rest}
use Rattle.format_bytes.proofs.facts.breaks_of.Goals as goal

pub day_from-requires : goal.day_from-requires
day_from-requires c =
    let h = next c.args.days.now c.loop-rest.breaks c.loop-rest.rest.now c.in-len2-up.len_at_least c.loop-rest.invariant in
    let first = h.first in
    search rules

pub day_from-requires-in-len2-up : goal.day_from-requires-in-len2-up
day_from-requires-in-len2-up c =
    let h = next c.args.days.now c.loop-rest.breaks c.loop-rest.rest.now c.in-len2-up.len_at_least c.loop-rest.invariant in
    let last = h.last in
    search rules

pub loop-rest-preserved : goal.loop-rest-preserved
loop-rest-preserved c =
    let h = next c.args.days.now c.loop-rest.breaks c.loop-rest.rest.now c.in-len2-up.len_at_least c.loop-rest.invariant in
    let first : day_number c.day_from.result ≡ slice_index_or c.loop-rest.rest.now 0 (pos 0) = search rules in
    let last : day_number c.day_from-in-len2-up.result ≡ slice_index_or c.loop-rest.rest.now 1 (pos 0) = search rules in
    let more = h.after c.day_from.result c.day_from-in-len2-up.result first last in
    rw (c.push.ensures, all_of_rest) more

pub returns : goal.returns
returns c = record { value = all_read c.args.days.now c.loop-rest.breaks c.loop-rest.rest.now c.in_default.len_below c.loop-rest.invariant }
