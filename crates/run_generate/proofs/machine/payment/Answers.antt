use Rattle.std.proofs.Common.{rules, ◌≡◌, ℕ, ap}
use Rattle.aid_filings.proofs.SameFiling.{amount_parts}
use Rattle.aid_types.specs.declared.number.Program.TheVariants.{Pell}
use Rattle.run_generate.specs.Payments.{payable}
use Rattle.run_generate.proofs.Paid.{same_payment}
use Rattle.run_generate.proofs.machine.payment.Goals as goal

pub returns : goal.returns
unfolding amount_parts
returns c =
    let pay = c.args.pay.now in
    let is : c.min.result ≡ payable c.args.quote = search rules in
    same_payment pay.key _ _ (ap (λ (n : ℕ). (pay.student, (pay.year, (pay.term, (Pell, n))))) is)
