-- what is written, and what of the key is to come
use Rattle.std.proofs.Common.{◌≡◌, ◌+◌, ◌++◌, drop, vec_capacity, vec_len}
use Rattle.format_filings.specs.BookLines.{shown_key}
use Rattle.format_filings.proofs.line.push_key.Given as goal

abbrev pub invariant-loop-byte : goal.invariant-loop-byte
invariant-loop-byte l =
    l.out.items ++ shown_key (drop l.byte-index l.key) ≡ l.fn.out.items ++ shown_key l.key
    × (vec_len l.out ≡ vec_len l.fn.out + l.byte-index × (vec_capacity l.out ≡ vec_capacity l.fn.out))
