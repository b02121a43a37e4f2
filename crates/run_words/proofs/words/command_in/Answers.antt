use Rattle.std.proofs.Common.{Global, map, rules, string_bytes}
use Rattle.run_words.proofs.WordsLemmas.{answer_none, answer_only, answer_words, hyphened, named_reads, plain_behind, plain_words}
use Rattle.run_words.proofs.words.command_in.Goals as goal

pub returns-then-not-are_plain-clause-none : goal.returns-then-not-are_plain-clause-none
returns-then-not-are_plain-clause-none g c is d row = hyphened (string_bytes {Z = Global}) c.args.words.now c.are_plain.result c.are_plain.ensures (search rules) row.0

pub returns-then-not-are_plain-clause-only : goal.returns-then-not-are_plain-clause-only
returns-then-not-are_plain-clause-only g c d row = absurd (hyphened (string_bytes {Z = Global}) c.args.words.now c.are_plain.result c.are_plain.ensures (search rules) row.0)

pub command_named-requires : goal.command_named-requires
command_named-requires g c =
    plain_behind (string_bytes {Z = Global}) c.args.words.now c.in-Some.name.now c.in-Some.behind.now c.as_str.result.now (search rules) (search rules)
    (plain_words (string_bytes {Z = Global}) c.args.words.now c.are_plain.result c.are_plain.ensures (search rules))

pub returns-in-Some-clause-words : goal.returns-in-Some-clause-words
returns-in-Some-clause-words g c =
    answer_words _ (map (string_bytes {Z = Global}) c.args.words.now) c.command_named.result (plain_words (string_bytes {Z = Global}) c.args.words.now c.are_plain.result c.are_plain.ensures (search rules))
    (named_reads (string_bytes {Z = Global}) _ c.args.words.now c.in-Some.name.now c.in-Some.behind.now c.as_str.result.now (search rules) (search rules) c.command_named.result c.command_named.ensures)

pub returns-in-Some-clause-none : goal.returns-in-Some-clause-none
returns-in-Some-clause-none g c =
    answer_none _ (map (string_bytes {Z = Global}) c.args.words.now) c.command_named.result
    (named_reads (string_bytes {Z = Global}) _ c.args.words.now c.in-Some.name.now c.in-Some.behind.now c.as_str.result.now (search rules) (search rules) c.command_named.result c.command_named.ensures)

pub returns-in-Some-clause-only : goal.returns-in-Some-clause-only
returns-in-Some-clause-only g c d row =
    answer_only _ (map (string_bytes {Z = Global}) c.args.words.now) c.command_named.result
    (named_reads (string_bytes {Z = Global}) _ c.args.words.now c.in-Some.name.now c.in-Some.behind.now c.as_str.result.now (search rules) (search rules) c.command_named.result c.command_named.ensures) d row
