use Rattle.std.proofs.Common.{◌∙◌}
use Rattle.sorted_rows.proofs.Apart.{apart_tail, written_tail}
use Rattle.sorted_rows.proofs.write.write_new.Goals as goal

pub merge_long-requires-clause-apart : goal.merge_long-requires-clause-apart
merge_long-requires-clause-apart g c =
    apart_tail g.met.K.Ord.total c.args.key c.args.value c.args.tail.now.items c.args.main.now.items c.put-is_new.new.rows.items c.requires.apart c.put-is_new.ensures.sorted c.put-is_new.ensures.values c.requires.not_main

pub returns-clause-values : goal.returns-clause-values
returns-clause-values g c = λ q.
    c.merge_long.ensures.values q
    ∙ written_tail g.met.K.Ord.total c.args.key c.args.value c.args.tail.now.items c.args.main.now.items c.put-is_new.new.rows.items c.put-is_new.ensures.values q
