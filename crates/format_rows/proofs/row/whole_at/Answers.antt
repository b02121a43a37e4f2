use Rattle.std.proofs.Common.{◌≡◌, ◌-◌, Some, Ok, Err, ℤ, ap, sym, subst, refl, ◌∙◌}
use Rattle.aid_types.specs.Ranges.{IsWithin}
use Rattle.csv.specs.Records.{field_at, fields_of as texts_of}
use Rattle.format_rows.specs.declared.error.Cause.{Cause}
use Rattle.format_rows.proofs.WholeFields.{between, kept, kept_between, number_read}
use Rattle.format_rows.proofs.row.whole_at.Goals as goal

pub returns-in-Ok-clause-value : goal.returns-in-Ok-clause-value
returns-in-Ok-clause-value c =
    let read = (c.in-Ok.ensures.ok c.in-Ok.number).0 refl in
    let fits = between c.args.low c.args.high c.in-Ok.number c.ranges.low c.ranges.high read.1 read.2 in
    let at = subst (λ n. Some c.in-Some.text.now ≡ field_at (texts_of c.args.texts.now) (n - 1)) c.from.ensures c.in-Some.ensures.value in
    ap (λ (z : ℤ). Ok z) (kept_between c.args.low c.args.high c.in-Ok.number c.ranges.low c.ranges.high fits.0 fits.1)
    ∙ number_read c.args.row c.args.field c.args.low c.args.high _ _ _ c.in-Some.text.now (Ok c.in-Ok.number) (kept c.args.low c.ranges.low) (kept c.args.high c.ranges.high) at c.in-Ok.ensures.value

pub returns-in-Ok-clause-in_range : goal.returns-in-Ok-clause-in_range
returns-in-Ok-clause-in_range c =
    let read = (c.in-Ok.ensures.ok c.in-Ok.number).0 refl in
    let fits = between c.args.low c.args.high c.in-Ok.number c.ranges.low c.ranges.high read.1 read.2 in
    subst (λ (z : ℤ). IsWithin c.args.low c.args.high z) (sym (kept_between c.args.low c.args.high c.in-Ok.number c.ranges.low c.ranges.high fits.0 fits.1)) fits

pub returns-in-Err-clause-value : goal.returns-in-Err-clause-value
returns-in-Err-clause-value c =
    let at = subst (λ n. Some c.in-Some.text.now ≡ field_at (texts_of c.args.texts.now) (n - 1)) c.from.ensures c.in-Some.ensures.value in
    ap Err c.refused-in-Err.ensures ∙ ap (λ (k : Cause). Err (record { row = c.args.row; field = c.args.field; cause = k })) c.cause_of.ensures
    ∙ number_read c.args.row c.args.field c.args.low c.args.high _ _ _ c.in-Some.text.now (Err c.in-Err.malformed) (kept c.args.low c.ranges.low) (kept c.args.high c.ranges.high) at c.in-Err.ensures.value
