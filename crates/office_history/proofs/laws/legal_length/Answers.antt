use Rattle.std.proofs.Common.{reverse, arith}
use Rattle.std.proofs.lemmas.List.{length-reverse}
use Rattle.office_history.proofs.Legal.{legal_is_short}
use Rattle.office_history.proofs.laws.legal_length.Goals as goal

pub returns : goal.returns
returns c =
    let h = c.args.history.now in
    omega (arith, legal_is_short (reverse h) c.requires, length-reverse h)
