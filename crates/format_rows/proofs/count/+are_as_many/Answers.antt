use Rattle.std.proofs.Common.{◌-◌, ◌<◌, ◌^◌, refl, drop, length, sym, ap, ◌∙◌, arith}
use Rattle.std.specs.Prelude.{map, nat_le}
use Rattle.std.proofs.lemmas.Bool.{lt-leb}
use Rattle.std.proofs.lemmas.List.{length-map}
use Rattle.csv.specs.Records.{fields_of as texts_of}
use Rattle.format_table.specs.Parts.{slot_of, slots_of}
use Rattle.format_rows.specs.Fields.{are_as_many}
use Rattle.format_rows.proofs.CountLemmas.{IsAt, at_most, count_is_none, is_end, is_short, rows_are_short, rows_fit}
use Rattle.format_rows.proofs.count.+are_as_many.Goals as goal

pub returns-in_default : goal.returns-in_default
returns-in_default t c = rw c.len.ensures (is_end (map (λ word. word.now) c.args.words.now) c.args.parts.now (texts_of c.args.texts.now) c.args.place c.in_default.ensures.cases c.requires.within)

pub returns-in_default-get : goal.returns-in_default-get
returns-in_default-get t c =
    let texts = texts_of c.args.texts.now in
    let none = is_short (map (λ word. word.now) c.args.words.now) (slot_of c.in-Some.part.now) (slots_of c.in-Some.rest.now) texts c.args.place (sym c.in_default-get.ensures.value) in
    sym (ap (λ parts. are_as_many (map (λ word. word.now) c.args.words.now) (slots_of parts) (drop c.args.place texts)) c.in-Some.ensures.cases.0 ∙ none)

pub overflow_sub-left-2 : goal.overflow_sub-left-2
overflow_sub-left-2 t c =
    let here = at_most (texts_of c.args.texts.now) c.args.place c.in-Some-get.text.now (sym c.in-Some-get.ensures.value) in
    omega (arith, here, c.len-2.ensures)

pub are_as_many-requires : goal.are_as_many-requires
are_as_many-requires t c =
    let here = at_most (texts_of c.args.texts.now) c.args.place c.in-Some-get.text.now (sym c.in-Some-get.ensures.value) in
    (omega (arith, c.decreases, c.in-Some.ensures.cases.1), omega (arith, here, c.len-2.ensures, c.if-more-left.true))

pub returns-then-more-left : goal.returns-then-more-left
returns-then-more-left t c =
    let texts = texts_of c.args.texts.now in
    let left = c.len-2.result - c.args.place - 1 in
    let at : IsAt texts c.args.place c.in-Some-get.text.now left =
    record { there = sym c.in-Some-get.ensures.value; behind = ap (λ n. n - c.args.place - 1) c.len-2.ensures } in
    let small : length texts < 2 ^ 64 = omega (arith, c.len-2.ensures, c.len-2.type_inv) in
    let fit = rows_fit (map (λ word. word.now) c.args.words.now) (slot_of c.in-Some.part.now) (slots_of c.in-Some.rest.now) texts c.args.place c.in-Some-get.text.now left c.in-Some-fields_counted.more _ at refl (sym c.in-Some-fields_counted.is ∙ c.fields_counted.ensures) small c.if-more-left.true in
    c.are_as_many.ensures ∙ sym fit ∙ sym (ap (λ parts. are_as_many (map (λ word. word.now) c.args.words.now) (slots_of parts) (drop c.args.place texts)) c.in-Some.ensures.cases.0)

pub returns-else-more-left : goal.returns-else-more-left
returns-else-more-left t c =
    let texts = texts_of c.args.texts.now in
    let left = c.len-2.result - c.args.place - 1 in
    let at : IsAt texts c.args.place c.in-Some-get.text.now left =
    record { there = sym c.in-Some-get.ensures.value; behind = ap (λ n. n - c.args.place - 1) c.len-2.ensures } in
    let long : left < c.in-Some-fields_counted.more = c.if-more-left.false in
    let short = rows_are_short (map (λ word. word.now) c.args.words.now) (slot_of c.in-Some.part.now) (slots_of c.in-Some.rest.now) texts c.args.place c.in-Some-get.text.now left c.in-Some-fields_counted.more _ at refl (sym c.in-Some-fields_counted.is ∙ c.fields_counted.ensures) long in
    lt-leb c.in-Some-fields_counted.more left long ∙ sym (ap (λ parts. are_as_many (map (λ word. word.now) c.args.words.now) (slots_of parts) (drop c.args.place texts)) c.in-Some.ensures.cases.0 ∙ short)

pub returns-in-None : goal.returns-in-None
returns-in-None t c =
    let texts = texts_of c.args.texts.now in
    let left = c.len-2.result - c.args.place - 1 in
    let at : IsAt texts c.args.place c.in-Some-get.text.now left =
    record { there = sym c.in-Some-get.ensures.value; behind = ap (λ n. n - c.args.place - 1) c.len-2.ensures } in
    let none = count_is_none (map (λ word. word.now) c.args.words.now) (slot_of c.in-Some.part.now) (slots_of c.in-Some.rest.now) texts c.args.place c.in-Some-get.text.now left _ at refl (sym c.in-None.is ∙ c.fields_counted.ensures) in
    ap (λ n. nat_le n left) (sym (length-map c.in-Some.rest.now slot_of)) ∙ none ∙ sym (ap (λ parts. are_as_many (map (λ word. word.now) c.args.words.now) (slots_of parts) (drop c.args.place texts)) c.in-Some.ensures.cases.0)
