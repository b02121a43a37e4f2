-- Without a record there are no bounds.
use Rattle.std.proofs.Common.{◌≡◌, refl, Option, Some, None}
use Rattle.law_loans.specs.declared.filing.LimitFacts.{LimitFacts}
use Rattle.law_loans.specs.Rules.{bounds_under}

pub no_record : (l : Option LimitFacts) → bounds_under l None ≡ record { need = 0; sub = 0; total = 0; cost = 0; sub_all = 0; all = 0 }
no_record None = refl
no_record (Some l) = refl
