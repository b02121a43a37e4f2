use Rattle.run_plan.proofs.plan.row_for.Goals as goal

pub returns-in-Office-clause-desks : goal.returns-in-Office-clause-desks
returns-in-Office-clause-desks c files stamp = rw c.in-Office.is (c.row_of.ensures.desks files stamp)

pub returns-in-Office-clause-serve : goal.returns-in-Office-clause-serve
returns-in-Office-clause-serve c port workers sessions stamp =
    let told = c.row_of.ensures.serve port workers sessions stamp in
    ((λ is. (c.in-Office.is, told.0 is)), (λ both. told.1 both.1))

pub returns-in-Loans-clause-desks : goal.returns-in-Loans-clause-desks
returns-in-Loans-clause-desks c files stamp = rw c.in-Loans.is (c.loan_row.ensures.desks files stamp)
