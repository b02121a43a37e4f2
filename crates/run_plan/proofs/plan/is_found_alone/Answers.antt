use Rattle.std.proofs.Common.{Global, codes, string_bytes}
use Rattle.run_words.proofs.StampedWords.{is_alone_word}
use Rattle.run_plan.proofs.plan.is_found_alone.Goals as goal

pub returns-in-len1 : goal.returns-in-len1
returns-in-len1 c =
    is_alone_word (string_bytes {Z = Global}) c.args.words.now c.word-item.result c.as_str.result.now (codes "found") c.eq.result c.in-len1.len_at_least c.in-len1.len_below
    c.word-item.is c.as_str.ensures.value c.eq.ensures
