use Rattle.std.proofs.Common.{rules, ◌≡◌, ◌∙◌, unsigned_abs, w64, to_z, of_z}
use Rattle.format_kinds.specs.Kinds.{words_of_programs}
use Rattle.format_filings.proofs.WritingLemmas.{text_added, word_at}
use Rattle.format_filings.proofs.field.put_word.Goals as goal

pub returns : goal.returns
returns c =
    let same : to_z w64 (of_z w64 c.args.place) ≡ c.args.place = search rules in
    let found = rw same at c.as_bytes.ensures.value in
    text_added c.extend_from_slice.result _ _ _ _ c.extend_from_slice.ensures.items (found ∙ word_at c.program_words.result.now words_of_programs (unsigned_abs c.args.place) c.program_words.ensures)
