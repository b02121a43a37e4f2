use Rattle.std.proofs.Common.{ap, ℕ, List, ◌++◌, length, drop, replicate}
use Rattle.aid_stamps.proofs.Lemmas.{array_named}
use Rattle.aid_stamps.proofs.clerk.named.Goals as goal

pub invariant_of-result : goal.invariant_of-result
invariant_of-result c =
    array_named c.args.name.now _ c.requires (ap (λ (ys : List ℕ). ys ++ drop (length c.args.name.now) (replicate 32 0)) c.copy_from_slice.ensures.after)
