use Rattle.std.proofs.Common.{rules, sym}
use Rattle.csv.specs.Records.{fields_of}
use Rattle.office_amends.proofs.Fields.{begins_none, begins_some}
use Rattle.office_amends.proofs.row.begins_with_digits.Goals as goal

pub returns-in-Some : goal.returns-in-Some
returns-in-Some c =
    let is = begins_some (fields_of c.args.fields.now) c.in-Some.word.now c.in-Some.ensures.value in
    rw is (search rules)

pub returns-in-None : goal.returns-in-None
returns-in-None c = sym (begins_none (fields_of c.args.fields.now) c.in-None.ensures.value)
