use Rattle.std.proofs.Common.{Ok, Err, List, ℕ, rules, sym, subst, ◌∙◌}
use Rattle.csv.specs.Records.{fields_of}
use Rattle.office_amends.specs.Rows.{HasDigits}
use Rattle.office_amends.proofs.Fields.{no_second, other_count, second}
use Rattle.office_amends.proofs.row.filing_in_digits.Goals as goal

pub returns-then-len-ne2 : goal.returns-then-len-ne2
returns-then-len-ne2 c = rw c.refused.ensures (other_count c.args.row (fields_of c.args.fields.now) (λ two. c.if-len-ne2.true (c.len.ensures ∙ two)))

pub returns-in_default : goal.returns-in_default
returns-in_default c = absurd (no_second (fields_of c.args.fields.now) (sym c.len.ensures ∙ c.if-len-ne2.false) (search rules))

pub returns-in-Some-2 : goal.returns-in-Some-2
returns-in-Some-2 c =
    let digits = second (fields_of c.args.fields.now) c.in-Some.digits.now (sym c.len.ensures ∙ c.if-len-ne2.false) c.in-Some.ensures.value in
    subst (λ (texts : List (List ℕ)). HasDigits c.args.row texts (Ok c.in-Some-2.filing)) (sym digits) (search rules)

pub returns-in-None : goal.returns-in-None
returns-in-None c =
    let digits = second (fields_of c.args.fields.now) c.in-Some.digits.now (sym c.len.ensures ∙ c.if-len-ne2.false) c.in-Some.ensures.value in
    subst (λ (texts : List (List ℕ)). HasDigits c.args.row texts (Err c.refused-in-None.result)) (sym digits) (search rules)
