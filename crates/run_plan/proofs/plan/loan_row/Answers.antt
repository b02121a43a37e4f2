use Rattle.std.proofs.Common.{Global, rules, string_bytes}
use Rattle.run_plan.proofs.PlanLemmas.{loan_split}
use Rattle.run_plan.proofs.plan.loan_row.Goals as goal

pub returns-in-Some-clause-desks : goal.returns-in-Some-clause-desks
returns-in-Some-clause-desks c =
    loan_split (string_bytes {Z = Global}) c.args.words.now c.in-Some.first.now c.in-Some.files.now c.as_str.result.now c.loan_row_of.result
    (search rules) (search rules) c.loan_row_of.ensures.desks
