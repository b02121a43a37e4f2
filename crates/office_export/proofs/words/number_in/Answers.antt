use Rattle.std.proofs.Common.{rules, ◌∙◌, ap, ap₂, refl, subst, ◌≤ℤ◌, w64}
use Rattle.std.specs.Prelude.{unsigned_abs}
use Rattle.std.proofs.lemmas.Int.{to_z-of_z}
use Rattle.aid_types.specs.Whole.{whole_of, whole_between}
use Rattle.office_export.specs.Said.{number_of}
use Rattle.office_export.proofs.Readings.{size_between}
use Rattle.office_export.proofs.words.number_in.Goals as goal

pub returns-in-Ok-clause-in_range : goal.returns-in-Ok-clause-in_range
returns-in-Ok-clause-in_range c =
    let low_is = to_z-of_z w64 c.args.low c.ranges.low in
    let high_is = to_z-of_z w64 c.args.high c.ranges.high in
    let read = (c.in-Ok.ensures.ok c.in-Ok.number).0 refl in
    let number_is = to_z-of_z w64 c.in-Ok.number (search rules) in
    size_between c.args.low c.args.high c.in-Ok.number c.unsigned_abs.result (c.unsigned_abs.ensures.value ∙ ap unsigned_abs number_is) c.requires
    (subst (λ x. x ≤ℤ c.in-Ok.number) low_is read.1) (subst (λ x. c.in-Ok.number ≤ℤ x) high_is read.2)

pub returns-in-Err-clause-value : goal.returns-in-Err-clause-value
returns-in-Err-clause-value c =
    let low_is = to_z-of_z w64 c.args.low c.ranges.low in
    let high_is = to_z-of_z w64 c.args.high c.ranges.high in
    ap number_of (c.in-Err.ensures.value ∙ ap₂ (λ low high. whole_between low high (whole_of c.args.text.now)) low_is high_is)
