use Rattle.std.proofs.Common.{◌<◌, ◌≤◌, Global, arith, length, map, rules, string_bytes}
use Rattle.run_words.proofs.ServeWords.{four, four_texts, if_serve, no_serve}
use Rattle.run_words.proofs.main_row.serve_row.Goals as goal
use Rattle.run_words.proofs.main_row.serve_row.Goals.{in_default-via-then-words-lt4, in_default-via-else-words-lt4+else-words-lt5}

pub returns-in-len4 : goal.returns-in-len4
returns-in-len4 c =
    if_serve c.args.stamp.now _ (map (string_bytes {Z = Global}) c.args.words.now) c.row_of_four.result
    (four_texts (string_bytes {Z = Global}) c.args.words.now c.first-item.result c.port-item.result c.workers-item.result c.sessions-item.result _ _ _ _
    (four c.args.words.now c.first-item.result c.port-item.result c.workers-item.result c.sessions-item.result c.in-len4.len_at_least c.in-len4.len_below
    c.first-item.is c.port-item.is c.workers-item.is c.sessions-item.is)
    c.as_str.ensures.value c.as_str-in-len4.ensures.value c.as_str-in-len4-2.ensures.value c.as_str-in-len4-3.ensures.value)
    c.row_of_four.ensures

pub returns-in_default : goal.returns-in_default
returns-in_default c =
    no_serve (string_bytes {Z = Global}) c.args.words.now (λ four. elim c.in_default.branch [
      | in_default-via-then-words-lt4 w ↦ let few : length c.args.words.now < 4 = search rules in omega (arith, few, four)
      | in_default-via-else-words-lt4+else-words-lt5 w ↦ let many : 5 ≤ length c.args.words.now = search rules in omega (arith, many, four)
    ])
