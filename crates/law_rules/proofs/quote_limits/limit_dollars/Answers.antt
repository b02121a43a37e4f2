use Rattle.std.proofs.Common.{◌+◌, ◌*◌, arith}
use Rattle.law_rules.proofs.LimitLaws.{limits_most}
use Rattle.law_rules.proofs.quote_limits.limit_dollars.Goals as goal

pub returns : goal.returns
returns c =
    rw (c.min-3.ensures, c.min-2.ensures, c.min.ensures)
    (limits_most c.args.f.now c.dollars_between-of_term.result c.dollars_between-of_year.result c.dollars_between-of_lifetime.result c.dollars_between-of_cost.result
    (rw c.payment_at-payment.ensures at c.dollars_between-of_term.ensures) (rw c.limit_of_year.ensures.value at c.dollars_between-of_year.ensures)
    (λ dollars pos.
    let k = c.dollars_between-of_lifetime.ensures dollars pos in
    let l = c.lifetime_cents.ensures (c.args.f.now.pell_year + 100 * dollars) (omega arith) in
    (λ le. l.0 (k.0 le), λ h. k.1 (l.1 h)))
    (rw c.from-cost.ensures at c.dollars_between-of_cost.ensures))
