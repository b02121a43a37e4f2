use Rattle.std.proofs.Common.{Global, rules, string_bytes}
use Rattle.run_plan.proofs.PlanLemmas.{loan_desks}
use Rattle.run_plan.proofs.plan.loan_row_of.Goals as goal

pub returns-then-files-le-MOST_DESKS-clause-desks : goal.returns-then-files-le-MOST_DESKS-clause-desks
returns-then-files-le-MOST_DESKS-clause-desks c =
    loan_desks (string_bytes {Z = Global}) c.args.first.now c.args.files.now c.plain.result c.plain.ensures (search rules) (search rules) (search rules)
