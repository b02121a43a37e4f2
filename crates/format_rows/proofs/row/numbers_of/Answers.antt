use Rattle.std.proofs.Common.{rules, ◌++◌, ◌≡◌, ◌+◌, ℕ, length, drop, refl, sym, ap, ◌∙◌, arith, w64, to_z, of_z}
use Rattle.std.specs.Prelude.{Err, map}
use Rattle.std.proofs.lemmas.Result.{err_from_is_err_and}
use Rattle.csv.specs.Records.{fields_of as texts_of}
use Rattle.format_table.specs.Draft.{Progress, onward}
use Rattle.format_table.specs.Parts.{line_of, slots_of}
use Rattle.format_table.proofs.WalkLaws.{all_put, numbers_with, numbers_with-none}
use Rattle.format_rows.specs.Numbers.{row_source}
use Rattle.format_rows.proofs.NumbersLemmas.{goes_on, is_past, is_reading, not_read, texts_left}
use Rattle.format_rows.proofs.row.numbers_of.Goals as goal

pub loop-field-init : goal.loop-field-init
loop-field-init c =
    let d = c.new-draft.result in
    let texts = texts_of c.args.texts.now in
    ap (λ (k : ℕ). numbers_with (row_source (map (λ word. word.now) c.args.words.now) c.args.row) d (drop k texts)) (ap (λ zs. length zs + 1) c.new-draft.ensures.none)
    ∙ numbers_with-none (row_source (map (λ word. word.now) c.args.words.now) c.args.row) (slots_of c.args.key.now ++ slots_of c.args.parts.now) d (drop 1 texts) c.new-draft.ensures.to_come c.new-draft.ensures.none

pub returns-in_err-number : goal.returns-in_err-number
returns-in_err-number c =
    let p = err_from_is_err_and c.from_residual.result c.from_residual.ensures.1 in
    let d = c.loop-field.draft in
    let before = length c.numbers-before.result.now in
    let reading = is_reading d (line_of c.in-Some.field.now) c.numbers-before.result.now c.in-Some.ensures.field c.in-Some.ensures.room c.numbers-before.ensures.numbers in
    let none = not_read (map (λ word. word.now) c.args.words.now) c.args.row before d (line_of c.in-Some.field.now) (texts_of c.args.texts.now) c.in_err-number.field-0.0 reading (sym c.number_at.ensures ∙ c.in_err-number.was) in
    rw (p.1, p.2) (sym none ∙ c.loop-field.invariant)

pub returns-then-not-push : goal.returns-then-not-push
returns-then-not-push c =
    let d = c.loop-field.draft in
    let z = c.in_ok-number.number in
    let before = length c.numbers-before.result.now in
    let same : to_z w64 (of_z w64 z) ≡ z = search rules in
    let accepted = rw same at c.push.ensures.accepted in
    let reading = is_reading d (line_of c.in-Some.field.now) c.numbers-before.result.now c.in-Some.ensures.field c.in-Some.ensures.room c.numbers-before.ensures.numbers in
    let past = is_past (map (λ word. word.now) c.args.words.now) c.args.row before d (line_of c.in-Some.field.now) (texts_of c.args.texts.now) z reading (sym c.number_at.ensures ∙ c.in_ok-number.was) (sym accepted ∙ c.if-not-push.true) in
    ap Err c.refused.ensures ∙ sym past ∙ c.loop-field.invariant

pub loop-field-smaller : goal.loop-field-smaller
loop-field-smaller c =
    let new = rw c.if-not-push.false at c.push.ensures.onward in
    let longer : length c.push.new.self.earlier ≡ length c.loop-field.draft.earlier + 1 = ap (λ (p : Progress). length p.earlier) new ∙ omega arith in
    omega (arith, longer, c.in-Some.ensures.room)

pub loop-field-preserved : goal.loop-field-preserved
loop-field-preserved c =
    let d = c.loop-field.draft in
    let z = c.in_ok-number.number in
    let before = length c.numbers-before.result.now in
    let same : to_z w64 (of_z w64 z) ≡ z = search rules in
    let accepted = rw same at c.push.ensures.accepted in
    let next : c.push.new.self ≡ onward d z = rw (c.if-not-push.false, same) at c.push.ensures.onward in
    let reading = is_reading d (line_of c.in-Some.field.now) c.numbers-before.result.now c.in-Some.ensures.field c.in-Some.ensures.room c.numbers-before.ensures.numbers in
    goes_on (map (λ word. word.now) c.args.words.now) c.args.row before d c.push.new.self (line_of c.in-Some.field.now) (texts_of c.args.texts.now) z reading (sym c.number_at.ensures ∙ c.in_ok-number.was) (sym accepted ∙ c.if-not-push.false) next
    ∙ c.loop-field.invariant

pub returns : goal.returns
returns c =
    let d = c.loop-field.draft in
    sym (all_put (row_source (map (λ word. word.now) c.args.words.now) c.args.row) d (texts_left (texts_of c.args.texts.now) d) c.in_default.ensures.field refl) ∙ c.loop-field.invariant
