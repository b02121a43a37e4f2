use Rattle.std.proofs.Common.{◌∙◌, ap, ℕ, List, length, ◌++◌, drop, replicate}
use Rattle.format_table.proofs.WordLemmas.{word-padded}
use Rattle.format_table.proofs.reading.word_of.Goals as goal

pub returns : goal.returns
returns c = record { value = c.from_le_bytes.ensures ∙ word-padded c.args.bytes.now _ (length c.args.bytes.now) 8 (ap (λ (ys : List ℕ). ys ++ drop (length c.args.bytes.now) (replicate 8 0)) c.copy_from_slice.ensures.after) }
