use Rattle.std.proofs.Common.{◌≤◌, length, arith}
use Rattle.format_kinds.specs.Kinds.{first_and_last}
use Rattle.format_table.specs.Layout.{rows_again}
use Rattle.std.specs.Prelude.{flat_map}
use Rattle.format_bytes.specs.Numbers.{break_days}
use Rattle.format_bytes.specs.Parts.{FitAnywhere}
use Rattle.format_bytes.proofs.Calendars.{calendar_fits}
use Rattle.format_bytes.proofs.facts.put_calendar.Goals as goal

pub returns-clause-in_range : goal.returns-clause-in_range
returns-clause-in_range c =
    let few : length c.args.facts.now.breaks ≤ 8 = omega arith in
    let fit : FitAnywhere (rows_again (length c.args.facts.now.breaks) first_and_last) (flat_map break_days c.args.facts.now.breaks) = rw c.as_slice.ensures at c.put_breaks.ensures.in_range in
    calendar_fits c.args.facts.now c.number_of_year-year.ensures.in_range c.number_of_day-first.ensures.in_range c.number_of_day-last.ensures.in_range few fit
