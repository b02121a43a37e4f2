use Rattle.std.proofs.Common.{◌≡◌, ◌++◌, arith, length, rules, refl, sym, ◌∙◌, SFits, w64}
use Rattle.std.proofs.lemmas.Int.{to_z-of_z}
use Rattle.format_table.specs.Draft.{onward}
use Rattle.format_table.specs.Parts.{line_of, slots_of}
use Rattle.format_table.proofs.WalkLaws.{numbers_with-none}
use Rattle.format_table.specs.Taking.{byte_source, placed}
use Rattle.format_table.proofs.NumberLaws.{width-positive}
use Rattle.format_table.proofs.ReadingLoop.{IsReading, goes_on, is_done, is_past, is_short, is_too_long}
use Rattle.format_table.proofs.reading.numbers_at.Goals as goal

pub loop-field-init : goal.loop-field-init
loop-field-init g c = record {
  at = refl;
  so_far = numbers_with-none byte_source (slots_of c.args.key.now ++ slots_of c.args.parts.now) c.new-draft.result (placed 1 c.args.bytes.now) c.new-draft.ensures.to_come c.new-draft.ensures.none;
}

pub returns-in_default-number_at : goal.returns-in_default-number_at
returns-in_default-number_at g c =
    let reading : IsReading c.loop-field.draft (line_of c.in-Some.field.now) = record { next = c.in-Some.ensures.field; room = c.in-Some.ensures.room; held = c.in-Some.ensures.held } in
    let fault = is_short c.loop-field.draft c.loop-field.place c.loop-field.rest.now (line_of c.in-Some.field.now) reading (c.in_default-number_at.ensures.none refl) in
    sym fault ∙ c.loop-field.invariant.so_far

pub returns-then-not-push : goal.returns-then-not-push
returns-then-not-push g c =
    let number = c.in-Some-number_at.number in
    let fits : SFits w64 number = search rules in
    let accepted = rw (to_z-of_z w64 number fits) at c.push.ensures.accepted in
    let reading : IsReading c.loop-field.draft (line_of c.in-Some.field.now) = record { next = c.in-Some.ensures.field; room = c.in-Some.ensures.room; held = c.in-Some.ensures.held } in
    let fault = is_past c.loop-field.draft c.loop-field.place c.loop-field.rest.now (line_of c.in-Some.field.now) number reading c.in-Some-number_at.ensures.some (sym accepted ∙ c.if-not-push.true) in
    sym fault ∙ c.loop-field.invariant.so_far

pub loop-field-preserved : goal.loop-field-preserved
loop-field-preserved g c =
    let number = c.in-Some-number_at.number in
    let fits : SFits w64 number = search rules in
    let accepted = rw (to_z-of_z w64 number fits) at c.push.ensures.accepted in
    let next : c.push.new.self ≡ onward c.loop-field.draft number = rw (c.if-not-push.false, to_z-of_z w64 number fits) at c.push.ensures.onward in
    let reading : IsReading c.loop-field.draft (line_of c.in-Some.field.now) = record { next = c.in-Some.ensures.field; room = c.in-Some.ensures.room; held = c.in-Some.ensures.held } in
    let more = goes_on c.loop-field.draft c.push.new.self c.loop-field.place c.loop-field.rest.now c.split_at.result.1.now (line_of c.in-Some.field.now) number c.width-width.result reading
    c.in-Some-number_at.ensures.some (sym accepted ∙ c.if-not-push.false) next c.width-width.ensures.value c.split_at.ensures.back in
    record { at = omega (arith, width-positive c.in-Some.field.now.form); so_far = more ∙ c.loop-field.invariant.so_far }

pub returns-then-is_empty : goal.returns-then-is_empty
returns-then-is_empty g c =
    let none : length c.loop-field.rest.now ≡ 0 = search rules in
    sym (is_done c.loop-field.draft c.loop-field.place c.loop-field.rest.now c.in_default.ensures.field none) ∙ c.loop-field.invariant.so_far

pub returns-else-is_empty : goal.returns-else-is_empty
returns-else-is_empty g c =
    let some : length c.loop-field.rest.now ≡ 0 → ⊥ = search rules in
    sym (is_too_long c.loop-field.draft c.loop-field.place c.loop-field.rest.now c.in_default.ensures.field some) ∙ c.loop-field.invariant.so_far
