use Rattle.std.proofs.Common.{◌≡◌, ◌++◌, ◌∙◌, ap, sym, append_assoc, length-append, arith, rules, take, List, ℤ}
use Rattle.std.specs.Prelude.{flat_map}
use Rattle.format_bytes.specs.Numbers.{break_days}
use Rattle.format_bytes.proofs.Calendars.{one_more}
use Rattle.format_bytes.proofs.facts.put_breaks.Goals as goal

pub loop-first-preserved : goal.loop-first-preserved
loop-first-preserved c =
    let d = c.loop-first-item.result in
    let more = one_more c.args.breaks.now c.loop-first.first-index d c.loop-first-test.true c.loop-first-item.is c.number_of_day.ensures.in_range c.number_of_day-in-loop-first.ensures.in_range c.loop-first.invariant.in_range in
    let added : c.add_numbers.new.numbers.items ≡ c.loop-first.numbers.items ++ break_days d = search rules in
    record {
      room = rw added (omega (arith, length-append c.loop-first.numbers.items (break_days d)));
      added = added ∙ ap (λ (zs : List ℤ). zs ++ break_days d) c.loop-first.invariant.added ∙ append_assoc c.args.numbers.now.items (flat_map break_days (take c.loop-first.first-index c.args.breaks.now)) (break_days d) ∙ ap (λ (zs : List ℤ). c.args.numbers.now.items ++ zs) (sym more.days);
      in_range = more.fit;
    }
