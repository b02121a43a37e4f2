use Rattle.std.proofs.Common.{◌≤◌, List, ℕ, length, subst, sym}
use Rattle.format_bytes.proofs.FilingLaws.{length-spelling}
use Rattle.format_bytes.proofs.stamped.put_stamped.Goals as goal

pub put_front-requires : goal.put_front-requires
put_front-requires c = record { fits = subst (λ (l : List ℕ). length l ≤ 8155) (sym c.put.ensures.spelled) (length-spelling c.args.filing.now c.put.ensures.is_filing) }
