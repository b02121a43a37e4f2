use Rattle.std.proofs.Common.{◌≡◌, ℕ, ◌+◌, ◌-◌, ◌*◌, ◌^◌, ◌<◌, ◌≤◌, length, refl, subst, sym, ap, ◌∙◌, arith, length-append}
use Rattle.std.specs.Map.{lookup}
use Rattle.std.specs.BTreeMap.{is_at}
use Rattle.sorted_rows.proofs.Apart.{in_first, in_second}
use Rattle.sorted_rows.proofs.Looks.{both_missed, looks_in_digits, some_digit, two_searches}
use Rattle.sorted_rows.specs.Places.{tail_looks}
use Rattle.sorted_rows.specs.Seen.{Seen}
use Rattle.sorted_rows.proofs.table.Table.get.Goals as goal

pub returns-in-Some-clause-value : goal.returns-in-Some-clause-value
returns-in-Some-clause-value g c =
    let test = is_at (g.K.Ord.cmp c.args.key.now) in
    in_first test c.self.inside.tail.items c.self.inside.main.items c.in-Some.value (c.in-Some.ensures.value ∙ ap (lookup test) c.as_slice.ensures.value)
    ∙ ap (λ (t : Seen g.row.K.Denot g.row.V.Denot). lookup test t.rows) c.self.view_is

pub returns-in-Some-clause-lookups : goal.returns-in-Some-clause-lookups
returns-in-Some-clause-lookups g c = λ digits short.
    let few : length c.as_slice.result.now ≡ length c.self.inside.tail.items = ap length c.as_slice.ensures.value in
    omega (arith, looks_in_digits (c.find.new.steps - c.args.steps.now) (length c.as_slice.result.now) tail_looks c.in-Some.ensures.lookups (omega arith))

pub returns-in-None-clause-value : goal.returns-in-None-clause-value
returns-in-None-clause-value g c =
    let test = is_at (g.K.Ord.cmp c.args.key.now) in
    c.find-in-None.ensures.value
    ∙ ap (lookup test) c.as_slice-in-None.ensures.value
    ∙ in_second test c.self.inside.tail.items c.self.inside.main.items (c.in-None.ensures.value ∙ ap (lookup test) c.as_slice.ensures.value)
    ∙ ap (λ (t : Seen g.row.K.Denot g.row.V.Denot). lookup test t.rows) c.self.view_is

pub returns-in-None-clause-lookups : goal.returns-in-None-clause-lookups
returns-in-None-clause-lookups g c = λ digits short.
    let tail = c.self.inside.tail.items in
    let main = c.self.inside.main.items in
    let all : length c.args.self.now.rows ≡ length tail + length main = sym (ap (λ (t : Seen g.row.K.Denot g.row.V.Denot). length t.rows) c.self.view_is) ∙ length-append tail main in
    let few : length c.as_slice.result.now ≡ length tail = ap length c.as_slice.ensures.value in
    let many : length c.as_slice-in-None.result.now ≡ length main = ap length c.as_slice-in-None.ensures.value in
    let in_tail : c.find.new.steps - c.args.steps.now ≤ tail_looks =
    looks_in_digits (c.find.new.steps - c.args.steps.now) (length c.as_slice.result.now) tail_looks c.in-None.ensures.lookups (omega arith) in
    let in_main : c.find-in-None.new.steps - c.find.new.steps ≤ digits =
    looks_in_digits (c.find-in-None.new.steps - c.find.new.steps) (length c.as_slice-in-None.result.now) digits c.find-in-None.ensures.lookups (omega arith) in
    omega (arith, c.in-None.ensures.later, c.find-in-None.ensures.later)

pub returns-in-Some-clause-twice : goal.returns-in-Some-clause-twice
returns-in-Some-clause-twice g c = λ digits short.
    let all : length c.args.self.now.rows ≡ length c.self.inside.tail.items + length c.self.inside.main.items = sym (ap (λ (t : Seen g.row.K.Denot g.row.V.Denot). length t.rows) c.self.view_is) ∙ length-append c.self.inside.tail.items c.self.inside.main.items in
    let few : length c.as_slice.result.now ≡ length c.self.inside.tail.items = ap length c.as_slice.ensures.value in
    omega (arith, looks_in_digits (c.find.new.steps - c.args.steps.now) (length c.as_slice.result.now) digits c.in-Some.ensures.lookups (omega arith))

pub returns-in-Some-clause-spared : goal.returns-in-Some-clause-spared
returns-in-Some-clause-spared g c = λ digits some short.
    let all : length c.args.self.now.rows ≡ length c.self.inside.tail.items + length c.self.inside.main.items = sym (ap (λ (t : Seen g.row.K.Denot g.row.V.Denot). length t.rows) c.self.view_is) ∙ length-append c.self.inside.tail.items c.self.inside.main.items in
    let few : length c.as_slice.result.now ≡ length c.self.inside.tail.items = ap length c.as_slice.ensures.value in
    let spare : 0 < digits = some_digit (length c.args.self.now.rows) digits some short in
    omega (arith, looks_in_digits (c.find.new.steps - c.args.steps.now) (length c.as_slice.result.now) digits c.in-Some.ensures.lookups (omega arith))

pub returns-in-None-clause-twice : goal.returns-in-None-clause-twice
returns-in-None-clause-twice g c = λ digits short.
    let tail = c.self.inside.tail.items in
    let main = c.self.inside.main.items in
    let all : length c.args.self.now.rows ≡ length tail + length main = sym (ap (λ (t : Seen g.row.K.Denot g.row.V.Denot). length t.rows) c.self.view_is) ∙ length-append tail main in
    let few : length c.as_slice.result.now ≡ length tail = ap length c.as_slice.ensures.value in
    let many : length c.as_slice-in-None.result.now ≡ length main = ap length c.as_slice-in-None.ensures.value in
    let in_tail : c.find.new.steps - c.args.steps.now ≤ digits =
    looks_in_digits (c.find.new.steps - c.args.steps.now) (length c.as_slice.result.now) digits c.in-None.ensures.lookups (omega arith) in
    let in_main : c.find-in-None.new.steps - c.find.new.steps ≤ digits =
    looks_in_digits (c.find-in-None.new.steps - c.find.new.steps) (length c.as_slice-in-None.result.now) digits c.find-in-None.ensures.lookups (omega arith) in
    omega (arith, c.in-None.ensures.later, c.find-in-None.ensures.later)

pub returns-in-None-clause-spared : goal.returns-in-None-clause-spared
returns-in-None-clause-spared g c = λ digits some short.
    let tail = c.self.inside.tail.items in
    let main = c.self.inside.main.items in
    let rows : length c.args.self.now.rows ≡ length tail + length main = sym (ap (λ (t : Seen g.row.K.Denot g.row.V.Denot). length t.rows) c.self.view_is) ∙ length-append tail main in
    let few : length c.as_slice.result.now ≡ length tail = ap length c.as_slice.ensures.value in
    let many : length c.as_slice-in-None.result.now ≡ length main = ap length c.as_slice-in-None.ensures.value in
    let both : c.find.new.steps - c.args.steps.now + (c.find-in-None.new.steps - c.find.new.steps) + 1 ≤ 2 * digits =
    two_searches (c.find.new.steps - c.args.steps.now) (c.find-in-None.new.steps - c.find.new.steps) (length c.as_slice.result.now) (length c.as_slice-in-None.result.now) digits c.in-None.ensures.lookups c.find-in-None.ensures.lookups (omega arith) (omega arith) in
    omega (arith, c.in-None.ensures.later, c.find-in-None.ensures.later)

pub returns-in-None-clause-missed : goal.returns-in-None-clause-missed
returns-in-None-clause-missed g c = λ none.
    let tail = c.self.inside.tail.items in
    let main = c.self.inside.main.items in
    let rows : length c.args.self.now.rows ≡ length tail + length main = sym (ap (λ (t : Seen g.row.K.Denot g.row.V.Denot). length t.rows) c.self.view_is) ∙ length-append tail main in
    let few : length c.as_slice.result.now ≡ length tail = ap length c.as_slice.ensures.value in
    let many : length c.as_slice-in-None.result.now ≡ length main = ap length c.as_slice-in-None.ensures.value in
    let in_tail = c.find.new.steps - c.args.steps.now in
    let in_main = c.find-in-None.new.steps - c.find.new.steps in
    let both : length c.as_slice.result.now + length c.as_slice-in-None.result.now + 2 ≤ 2 ^ (in_tail + in_main + 1) =
    both_missed in_tail in_main (length c.as_slice.result.now) (length c.as_slice-in-None.result.now) (c.in-None.ensures.missed refl) (c.find-in-None.ensures.missed none) in
    let all : length c.args.self.now.rows + 2 ≤ 2 ^ (in_tail + in_main + 1) = omega (arith, rows, few, many, both) in
    subst (λ (k : ℕ). length c.args.self.now.rows + 2 ≤ 2 ^ k) {x = in_tail + in_main + 1} (omega (arith, c.in-None.ensures.later, c.find-in-None.ensures.later)) all
