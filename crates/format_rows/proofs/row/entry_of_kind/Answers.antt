use Rattle.std.proofs.Common.{◌≡◌, ◌++◌, false, true, drop, sym, ap, ◌∙◌}
use Rattle.std.specs.Prelude.{Ok, Err, map}
use Rattle.std.proofs.lemmas.Result.{err_from_is_err_and}
use Rattle.csv.specs.Records.{fields_of as texts_of}
use Rattle.format_table.specs.Parts.{slots_of}
use Rattle.format_table.specs.TableRows.{row_of as kind_row}
use Rattle.format_table.specs.Walk.{numbers_drafted}
use Rattle.format_table.proofs.TableLaws.{IsTable-told}
use Rattle.format_rows.specs.Fields.{are_as_many}
use Rattle.format_rows.specs.TableRowFormat.{row_of_slots}
use Rattle.format_rows.proofs.TableFormLemmas.{IsRow-by, read-are, right_count, wrong_count}
use Rattle.format_rows.proofs.row.entry_of_kind.Goals as goal

pub returns-then-not-has_fields : goal.returns-then-not-has_fields
returns-then-not-has_fields g c =
    let texts = drop 1 (texts_of c.args.texts.now) in
    let words = map (λ word. word.now) c.words-words.result.now in
    let rest = slots_of c.args.kind.parts.now in
    let slots = slots_of c.key_parts-key.result.now ++ rest in
    let same : row_of_slots words c.args.row c.args.kind.code slots texts ≡ row_of_slots g.T.KindTable.words c.args.row c.args.kind.code (g.T.KindTable.key ++ rest) texts =
    λ i. row_of_slots (c.words-words.ensures i) c.args.row c.args.kind.code (c.key_parts-key.ensures i ++ rest) texts in
    let many : are_as_many words slots texts ≡ false = sym c.has_fields.ensures ∙ c.if-not-has_fields.true in
    ap Err c.refused.ensures ∙ sym (wrong_count words c.args.row c.args.kind.code slots texts many) ∙ same

pub numbers_of-requires-clause-table : goal.numbers_of-requires-clause-table
numbers_of-requires-clause-table g c =
    IsTable-told g.T.KindTable.key (slots_of c.key_parts-key.result.now) g.T.KindTable.kinds c.args.kind.code (kind_row c.args.kind) g.met.T.KindTable.sound (sym c.requires.kind) c.key_parts-key.ensures

pub returns-in_err-draft : goal.returns-in_err-draft
returns-in_err-draft g c =
    let texts = drop 1 (texts_of c.args.texts.now) in
    let words = map (λ word. word.now) c.words-words.result.now in
    let rest = slots_of c.args.kind.parts.now in
    let slots = slots_of c.key_parts-key.result.now ++ rest in
    let same : row_of_slots words c.args.row c.args.kind.code slots texts ≡ row_of_slots g.T.KindTable.words c.args.row c.args.kind.code (g.T.KindTable.key ++ rest) texts =
    λ i. row_of_slots (c.words-words.ensures i) c.args.row c.args.kind.code (c.key_parts-key.ensures i ++ rest) texts in
    let many : are_as_many words slots texts ≡ true = sym c.has_fields.ensures ∙ c.if-not-has_fields.false in
    let p = err_from_is_err_and c.from_residual.result c.from_residual.ensures.1 in
    let read = sym c.numbers_of.ensures ∙ ap numbers_drafted c.in_err-draft.was in
    rw (p.1, p.2) (sym (right_count words c.args.row c.args.kind.code slots texts (Err c.in_err-draft.field-0.0) many read) ∙ same)

pub entry-requires : goal.entry-requires
entry-requires g c =
    let texts = drop 1 (texts_of c.args.texts.now) in
    let words = map (λ word. word.now) c.words-words.result.now in
    let rest = slots_of c.args.kind.parts.now in
    let slots = slots_of c.key_parts-key.result.now ++ rest in
    let read = sym c.numbers_of.ensures ∙ ap numbers_drafted c.in_ok-draft.was in
    IsRow-by g.T.KindTable.key (slots_of c.key_parts-key.result.now) g.T.KindTable.kinds c.args.kind.code (kind_row c.args.kind) c.numbers.result.now c.requires.kind c.key_parts-key.ensures
    (rw c.numbers.ensures.numbers (read-are words c.args.row slots texts _ read))

pub returns : goal.returns
returns g c =
    let texts = drop 1 (texts_of c.args.texts.now) in
    let words = map (λ word. word.now) c.words-words.result.now in
    let rest = slots_of c.args.kind.parts.now in
    let slots = slots_of c.key_parts-key.result.now ++ rest in
    let same : row_of_slots words c.args.row c.args.kind.code slots texts ≡ row_of_slots g.T.KindTable.words c.args.row c.args.kind.code (g.T.KindTable.key ++ rest) texts =
    λ i. row_of_slots (c.words-words.ensures i) c.args.row c.args.kind.code (c.key_parts-key.ensures i ++ rest) texts in
    let many : are_as_many words slots texts ≡ true = sym c.has_fields.ensures ∙ c.if-not-has_fields.false in
    let read = sym c.numbers_of.ensures ∙ ap numbers_drafted c.in_ok-draft.was in
    let numbers = c.entry.ensures.value ∙ c.numbers.ensures.numbers in
    (λ i. Ok (c.entry.ensures.code i, numbers i)) ∙ sym (right_count words c.args.row c.args.kind.code slots texts _ many read) ∙ same
