use Rattle.std.proofs.Common.{List, [], ◌∷◌, subst, arith}
use Rattle.std.specs.List.{AllByRecursion}
use Rattle.csv.specs.Records.{fields_of}
use Rattle.clock_hours.proofs.FieldLemmas.{each_amount, size_up_to, size_within}
use Rattle.clock_hours.specs.Fields.{IsInRange, whole_at}
use Rattle.clock_hours.specs.declared.field.Field.{Field}
use Rattle.clock_hours.proofs.row.withdraw_row.Goals as goal

pub count-requires : goal.count-requires
count-requires c =
    let texts = fields_of c.args.texts.now in
    let within = subst (λ (fields : List Field). AllByRecursion IsInRange fields) c.withdrawal_fields-fields.ensures c.in_ok-judge.ensures.within in
    let inside = size_up_to 1 1 9999 (whole_at texts 3) (whole_at texts 2) within.0 within.1.0 in
    let few = size_within 1 9999 (whole_at texts 3) within.1.0 in
    rw c.withdrawal_fields-fields.ensures (omega (arith, inside.1, few.1))

pub clock_sheet-requires-clause-net : goal.clock_sheet-requires-clause-net
clock_sheet-requires-clause-net c =
    let texts = fields_of c.args.texts.now in
    let within = subst (λ (fields : List Field). AllByRecursion IsInRange fields) c.withdrawal_fields-fields.ensures c.in_ok-judge.ensures.within in
    let net = within.1.1.1 in
    rw (c.sizes.ensures, c.withdrawal_fields-fields.ensures) (each_amount texts (5 ∷ 6 ∷ 7 ∷ 8 ∷ 9 ∷ 10 ∷ []) (net.0, (net.1.0, (net.1.1.0, (net.1.1.1.0, (net.1.1.1.1.0, (net.1.1.1.1.1.0, tt)))))))

pub clock_sheet-requires-clause-could : goal.clock_sheet-requires-clause-could
clock_sheet-requires-clause-could c =
    let texts = fields_of c.args.texts.now in
    let within = subst (λ (fields : List Field). AllByRecursion IsInRange fields) c.withdrawal_fields-fields.ensures c.in_ok-judge.ensures.within in
    rw (c.sizes-2.ensures, c.withdrawal_fields-fields.ensures) (each_amount texts (11 ∷ 12 ∷ 13 ∷ 14 ∷ 15 ∷ 16 ∷ []) within.1.1.1.1.1.1.1.1.1)
