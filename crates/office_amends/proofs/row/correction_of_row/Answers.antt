use Rattle.std.proofs.Common.{◌≡◌, Some, None, true, false, length, rules, sym, ◌∙◌}
use Rattle.csv.specs.Records.{fields_of}
use Rattle.office_amends.specs.Rows.{has_fields, no_verb, says, verb_of, wrong_change, wrong_count, wrong_grounds}
use Rattle.office_amends.proofs.row.correction_of_row.Goals as goal

pub returns-in_default : goal.returns-in_default
returns-in_default c =
    let none : verb_of (fields_of c.args.texts.now) ≡ None = search rules in
    rw c.refused.ensures (no_verb none)

pub returns-then-not-has_fields : goal.returns-then-not-has_fields
returns-then-not-has_fields c =
    let verb : verb_of (fields_of c.args.texts.now) ≡ Some c.in-Some.verb = search rules in
    let few : has_fields c.in-Some.verb (length (fields_of c.args.texts.now)) ≡ false = rw c.len.ensures at (sym c.has_fields.ensures ∙ c.if-not-has_fields.true) in
    rw c.refused-then-not-has_fields.ensures (wrong_count c.in-Some.verb verb few)

pub returns-in-Err : goal.returns-in-Err
returns-in-Err c =
    let verb : verb_of (fields_of c.args.texts.now) ≡ Some c.in-Some.verb = search rules in
    let many : has_fields c.in-Some.verb (length (fields_of c.args.texts.now)) ≡ true = rw c.len.ensures at (sym c.has_fields.ensures ∙ c.if-not-has_fields.false) in
    wrong_grounds c.in-Some.verb c.in-Err.error verb many c.in-Err.ensures

pub returns-in-Ok-2 : goal.returns-in-Ok-2
returns-in-Ok-2 c =
    let verb : verb_of (fields_of c.args.texts.now) ≡ Some c.in-Some.verb = search rules in
    let many : has_fields c.in-Some.verb (length (fields_of c.args.texts.now)) ≡ true = rw c.len.ensures at (sym c.has_fields.ensures ∙ c.if-not-has_fields.false) in
    says c.in-Some.verb c.in-Ok.grounds c.in-Ok-2.change verb many c.in-Ok.ensures (rw c.in-Ok-2.is at c.in_ok-change.ensures)

pub returns-in-Err-2 : goal.returns-in-Err-2
returns-in-Err-2 c =
    let verb : verb_of (fields_of c.args.texts.now) ≡ Some c.in-Some.verb = search rules in
    let many : has_fields c.in-Some.verb (length (fields_of c.args.texts.now)) ≡ true = rw c.len.ensures at (sym c.has_fields.ensures ∙ c.if-not-has_fields.false) in
    wrong_change c.in-Some.verb c.in-Ok.grounds c.in-Err-2.error verb many c.in-Ok.ensures (rw c.in-Err-2.is at c.in_ok-change.ensures)
