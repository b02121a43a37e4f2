use Rattle.std.proofs.Common.{Global, refl, string_bytes}
use Rattle.run_words.proofs.StampedWords.{no_stamp, said_is}
use Rattle.run_words.proofs.at.said_in.Goals as goal

pub returns-in-Some-clause-some : goal.returns-in-Some-clause-some
returns-in-Some-clause-some c =
    let is = c.in-Some.ensures in
    said_is (string_bytes {Z = Global}) c.args.words.now c.day-item.result c.clerk-item.result _ c.as_str.result.now c.as_str-in-len3-up.result.now c.in-Some.stamp
    c.requires c.in-len3-up.len_at_least c.day-item.is c.clerk-item.is refl c.as_str.ensures.value c.as_str-in-len3-up.ensures.value is.day is.clerk is.is_clerk is.named

pub returns-in-None-clause-none : goal.returns-in-None-clause-none
returns-in-None-clause-none c = λ none.
    no_stamp (string_bytes {Z = Global}) c.args.words.now c.day-item.result c.clerk-item.result _ c.as_str.result.now c.as_str-in-len3-up.result.now
    c.requires c.in-len3-up.len_at_least c.day-item.is c.clerk-item.is refl c.as_str.ensures.value c.as_str-in-len3-up.ensures.value (c.stamp_of.ensures.none c.in-None.is)
