use Rattle.std.proofs.Common.{◌++◌, ◌∙◌, ap, List, ℤ}
use Rattle.format_bytes.proofs.Applications.{side_halves}
use Rattle.format_bytes.proofs.application.put_side.Goals as goal

pub returns : goal.returns
returns c = record { added = c.add_amounts.ensures.added ∙ ap (λ (zs : List ℤ). c.args.numbers.now.items ++ zs) (side_halves c.args.side.now) }
