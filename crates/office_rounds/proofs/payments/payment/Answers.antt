use Rattle.std.proofs.Common.{◌*◌, ap, refl}
use Rattle.office_rounds.proofs.payments.payment.Goals as goal

pub returns : goal.returns
returns c = record {
  amount = _;
  what = refl;
  school = refl;
  number = refl;
  student = refl;
  year = refl;
  term = refl;
  program = refl;
  cents = ap (λ n. 100 * n) c.from.ensures;
}
