use Rattle.std.proofs.Common.{◌++◌, ◌∙◌, ap, sym, List, ℤ}
use Rattle.aid_filings.specs.declared.filing.What.TheVariants.{Prior, Apply, Enroll, Originate, Pay, Repay, Adjust, Cost, Sent, Amend}
use Rattle.format_kinds.specs.Kinds.{table_row_of}
use Rattle.format_bytes.specs.Numbers.{facts_of}
use Rattle.format_bytes.proofs.Same.{facts_fit}
use Rattle.format_bytes.proofs.filing.put_facts.Goals as goal

pub returns-in-Prior-clause-in_range : goal.returns-in-Prior-clause-in_range
unfolding facts_of table_row_of
returns-in-Prior-clause-in_range c = facts_fit c.args.what.now (Prior c.in-Prior.facts) c.in-Prior.is c.put_prior.ensures.in_range

pub returns-in-Apply-clause-in_range : goal.returns-in-Apply-clause-in_range
unfolding facts_of table_row_of
returns-in-Apply-clause-in_range c = facts_fit c.args.what.now (Apply c.in-Apply.application) c.in-Apply.is c.put_application.ensures.in_range

pub returns-in-Enroll-clause-in_range : goal.returns-in-Enroll-clause-in_range
unfolding facts_of table_row_of
returns-in-Enroll-clause-in_range c = facts_fit c.args.what.now (Enroll c.in-Enroll.facts) c.in-Enroll.is c.put_enroll.ensures.in_range

pub returns-in-Originate-clause-in_range : goal.returns-in-Originate-clause-in_range
unfolding facts_of table_row_of
returns-in-Originate-clause-in_range c = facts_fit c.args.what.now (Originate c.in-Originate.facts) c.in-Originate.is c.put_originate.ensures.in_range

pub returns-in-Pay-clause-in_range : goal.returns-in-Pay-clause-in_range
unfolding facts_of table_row_of
returns-in-Pay-clause-in_range c = facts_fit c.args.what.now (Pay c.in-Pay.amount) c.in-Pay.is c.put_amount.ensures.in_range

pub returns-in-Repay-clause-in_range : goal.returns-in-Repay-clause-in_range
unfolding facts_of table_row_of
returns-in-Repay-clause-in_range c = facts_fit c.args.what.now (Repay c.in-Repay.amount) c.in-Repay.is c.put_amount-in-Repay.ensures.in_range

pub returns-in-Adjust-clause-in_range : goal.returns-in-Adjust-clause-in_range
unfolding facts_of table_row_of
returns-in-Adjust-clause-in_range c = facts_fit c.args.what.now (Adjust c.in-Adjust.amount) c.in-Adjust.is c.put_amount-in-Adjust.ensures.in_range

pub returns-in-Cost-clause-in_range : goal.returns-in-Cost-clause-in_range
unfolding facts_of table_row_of
returns-in-Cost-clause-in_range c = facts_fit c.args.what.now (Cost c.in-Cost.facts) c.in-Cost.is c.put_originate-in-Cost.ensures.in_range

pub returns-in-Sent-clause-in_range : goal.returns-in-Sent-clause-in_range
unfolding facts_of table_row_of
returns-in-Sent-clause-in_range c = facts_fit c.args.what.now (Sent c.in-Sent.facts) c.in-Sent.is c.put_sent.ensures.in_range

pub returns-in-Amend-clause-in_range : goal.returns-in-Amend-clause-in_range
unfolding facts_of table_row_of
returns-in-Amend-clause-in_range c = facts_fit c.args.what.now (Amend c.in-Amend.facts) c.in-Amend.is c.put_amend.ensures.in_range

pub returns-in-Apply-clause-added : goal.returns-in-Apply-clause-added
unfolding facts_of
returns-in-Apply-clause-added c = c.put_application.ensures.added ∙ ap (λ (zs : List ℤ). c.args.numbers.now.items ++ zs) (sym (ap facts_of c.in-Apply.is))
