use Rattle.std.proofs.Common.{◌≡◌, ◌++◌, false, true, drop, length, sym, ap, ◌∙◌, arith}
use Rattle.std.specs.Prelude.{Ok, Err, map}
use Rattle.std.proofs.lemmas.List.{length-map}
use Rattle.std.proofs.lemmas.Result.{err_from_is_err_and}
use Rattle.csv.specs.Records.{fields_of as texts_of}
use Rattle.format_kinds.specs.Kinds.{slots_of_kind, words_of_programs}
use Rattle.format_kinds.proofs.Laws.{IsTable-parts}
use Rattle.format_table.specs.Parts.{slots_of}
use Rattle.format_table.specs.Tables.{are_plain}
use Rattle.format_table.specs.Walk.{numbers_drafted, numbers_of_slots}
use Rattle.format_rows.specs.Fields.{are_as_many}
use Rattle.format_rows.specs.Numbers.{row_source}
use Rattle.format_filings.proofs.RowsLemmas.{read-are, right_count, wrong_count}
use Rattle.format_filings.proofs.row.filing_of_kind.Goals as goal

pub has_fields-requires-clause-words : goal.has_fields-requires-clause-words
has_fields-requires-clause-words c = omega (arith, length-map c.program_words-words.result.now (λ word. word.now), ap length c.program_words-words.ensures)

pub has_fields-requires-clause-plain : goal.has_fields-requires-clause-plain
has_fields-requires-clause-plain c = ap are_plain c.key_parts-key.ensures

pub numbers_of-requires-clause-words : goal.numbers_of-requires-clause-words
numbers_of-requires-clause-words c = omega (arith, length-map c.program_words-words.result.now (λ word. word.now), ap length c.program_words-words.ensures)

pub numbers_of-requires-clause-plain : goal.numbers_of-requires-clause-plain
numbers_of-requires-clause-plain c = ap are_plain c.key_parts-key.ensures

pub numbers_of-requires-clause-table : goal.numbers_of-requires-clause-table
numbers_of-requires-clause-table c =
    IsTable-parts c.args.kind (slots_of c.key_parts-key.result.now) (slots_of c.table_row.result.parts.now) c.key_parts-key.ensures c.table_row.ensures.parts

pub returns-then-not-has_fields : goal.returns-then-not-has_fields
returns-then-not-has_fields c =
    let texts = drop 1 (texts_of c.args.texts.now) in
    let same : are_as_many (map (λ word. word.now) c.program_words-words.result.now) (slots_of c.key_parts-key.result.now ++ slots_of c.table_row.result.parts.now) texts ≡ are_as_many words_of_programs (slots_of_kind c.args.kind) texts =
    λ i. are_as_many (c.program_words-words.ensures i) (c.key_parts-key.ensures i ++ c.table_row.ensures.parts i) texts in
    let many : are_as_many words_of_programs (slots_of_kind c.args.kind) texts ≡ false = sym same ∙ sym c.has_fields.ensures ∙ c.if-not-has_fields.true in
    ap Err c.refused.ensures ∙ sym (wrong_count c.args.row c.args.kind texts many)

pub returns-in_err-draft : goal.returns-in_err-draft
returns-in_err-draft c =
    let texts = drop 1 (texts_of c.args.texts.now) in
    let p = err_from_is_err_and c.from_residual.result c.from_residual.ensures.1 in
    let same : are_as_many (map (λ word. word.now) c.program_words-words.result.now) (slots_of c.key_parts-key.result.now ++ slots_of c.table_row.result.parts.now) texts ≡ are_as_many words_of_programs (slots_of_kind c.args.kind) texts =
    λ i. are_as_many (c.program_words-words.ensures i) (c.key_parts-key.ensures i ++ c.table_row.ensures.parts i) texts in
    let same_numbers : numbers_of_slots (row_source (map (λ word. word.now) c.program_words-words.result.now) c.args.row) (slots_of c.key_parts-key.result.now ++ slots_of c.table_row.result.parts.now) texts ≡ numbers_of_slots (row_source words_of_programs c.args.row) (slots_of_kind c.args.kind) texts =
    λ i. numbers_of_slots (row_source (c.program_words-words.ensures i) c.args.row) (c.key_parts-key.ensures i ++ c.table_row.ensures.parts i) texts in
    let many : are_as_many words_of_programs (slots_of_kind c.args.kind) texts ≡ true = sym same ∙ sym c.has_fields.ensures ∙ c.if-not-has_fields.false in
    let read = sym same_numbers ∙ sym c.numbers_of.ensures ∙ ap numbers_drafted c.in_err-draft.was in
    rw (p.1, p.2) (sym (right_count c.args.row c.args.kind texts (Err c.in_err-draft.field-0.0) many read))

pub filing_of-requires : goal.filing_of-requires
filing_of-requires c =
    let texts = drop 1 (texts_of c.args.texts.now) in
    let same_numbers : numbers_of_slots (row_source (map (λ word. word.now) c.program_words-words.result.now) c.args.row) (slots_of c.key_parts-key.result.now ++ slots_of c.table_row.result.parts.now) texts ≡ numbers_of_slots (row_source words_of_programs c.args.row) (slots_of_kind c.args.kind) texts =
    λ i. numbers_of_slots (row_source (c.program_words-words.ensures i) c.args.row) (c.key_parts-key.ensures i ++ c.table_row.ensures.parts i) texts in
    let read = sym same_numbers ∙ sym c.numbers_of.ensures ∙ ap numbers_drafted c.in_ok-draft.was in
    record { in_range = rw c.numbers.ensures.numbers (read-are c.args.row c.args.kind texts _ read) }

pub returns : goal.returns
returns c =
    let texts = drop 1 (texts_of c.args.texts.now) in
    let same : are_as_many (map (λ word. word.now) c.program_words-words.result.now) (slots_of c.key_parts-key.result.now ++ slots_of c.table_row.result.parts.now) texts ≡ are_as_many words_of_programs (slots_of_kind c.args.kind) texts =
    λ i. are_as_many (c.program_words-words.ensures i) (c.key_parts-key.ensures i ++ c.table_row.ensures.parts i) texts in
    let same_numbers : numbers_of_slots (row_source (map (λ word. word.now) c.program_words-words.result.now) c.args.row) (slots_of c.key_parts-key.result.now ++ slots_of c.table_row.result.parts.now) texts ≡ numbers_of_slots (row_source words_of_programs c.args.row) (slots_of_kind c.args.kind) texts =
    λ i. numbers_of_slots (row_source (c.program_words-words.ensures i) c.args.row) (c.key_parts-key.ensures i ++ c.table_row.ensures.parts i) texts in
    let many : are_as_many words_of_programs (slots_of_kind c.args.kind) texts ≡ true = sym same ∙ sym c.has_fields.ensures ∙ c.if-not-has_fields.false in
    let read = sym same_numbers ∙ sym c.numbers_of.ensures ∙ ap numbers_drafted c.in_ok-draft.was in
    let numbers = c.in-Ok.ensures.value ∙ c.numbers.ensures.numbers in
    (λ i. Ok (c.in-Ok.ensures.kind i, numbers i)) ∙ sym (right_count c.args.row c.args.kind texts _ many read)
