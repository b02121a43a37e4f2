use Rattle.std.proofs.Common.{◌≡◌, pos, rules, drop}
use Rattle.std.specs.Prelude.{flat_map, slice_index_or}
use Rattle.format_bytes.specs.Numbers.{break_days, day_number, flag_number}
use Rattle.format_bytes.proofs.Calendars.{break_fits, calendar_is}
use Rattle.format_bytes.proofs.Slots.{all_of_rest}
use Rattle.format_bytes.proofs.facts.calendar_of.Goals as goal

pub breaks_of-requires : goal.breaks_of-requires
breaks_of-requires c = record { in_range = rw all_of_rest (break_fits c.args.numbers.now c.in-len6-up.len_at_least c.requires.in_range) }

pub returns : goal.returns
returns c =
    let year : pos c.year_from.result ≡ slice_index_or c.args.numbers.now 0 (pos 0) = search rules in
    let term : pos c.term_from.result ≡ slice_index_or c.args.numbers.now 1 (pos 0) = search rules in
    let extra : flag_number c.flag_from.result ≡ slice_index_or c.args.numbers.now 2 (pos 0) = search rules in
    let first : day_number c.day_from.result ≡ slice_index_or c.args.numbers.now 3 (pos 0) = search rules in
    let last : day_number c.day_from-2.result ≡ slice_index_or c.args.numbers.now 4 (pos 0) = search rules in
    let breaks : flat_map break_days c.breaks_of.result ≡ drop 6 c.args.numbers.now = rw all_of_rest at c.breaks_of.ensures.value in
    record { value = calendar_is c.args.numbers.now c.year_from.result c.term_from.result c.flag_from.result c.day_from.result c.day_from-2.result c.breaks_of.result c.in-len6-up.len_at_least c.requires.in_range year term extra first last breaks }
