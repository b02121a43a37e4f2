use Rattle.std.proofs.Common.{◌+◌, length, sym, ◌∙◌, arith}
use Rattle.std.specs.Prelude.{map}
use Rattle.std.proofs.lemmas.Bool.{lt-leb}
use Rattle.std.proofs.lemmas.List.{length-map}
use Rattle.csv.specs.Records.{fields_of as texts_of}
use Rattle.format_table.specs.Parts.{slot_of, slots_of}
use Rattle.format_rows.proofs.CountLemmas.{key_fits, key_is_short}
use Rattle.format_rows.proofs.count.has_fields.Goals as goal

pub returns-then-before-len : goal.returns-then-before-len
returns-then-before-len c =
    let texts = texts_of c.args.texts.now in
    let before = 1 + length c.args.key.now in
    let fit = key_fits (map (λ word. word.now) c.args.words.now) (slots_of c.args.key.now) (slots_of c.args.parts.now) texts before c.requires.plain (omega (arith, length-map c.args.key.now slot_of)) (omega (arith, c.len.ensures, c.if-before-len.true)) in
    c.are_as_many.ensures ∙ sym fit

pub returns-else-before-len : goal.returns-else-before-len
returns-else-before-len c =
    let texts = texts_of c.args.texts.now in
    let before = 1 + length c.args.key.now in
    let short = key_is_short (map (λ word. word.now) c.args.words.now) (slots_of c.args.key.now) (slots_of c.args.parts.now) texts before c.requires.plain (omega (arith, length-map c.args.key.now slot_of)) c.requires.named (omega (arith, c.len.ensures, c.if-before-len.false)) in
    lt-leb before c.len.result c.if-before-len.false ∙ sym short
