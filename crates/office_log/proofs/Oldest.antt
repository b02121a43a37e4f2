-- No version is older than that of the filings without stamps.
use Rattle.std.proofs.Common.{◌≡◌, ℕ, List, Result, Ok, Err}
use Rattle.std.specs.Prelude.{IfErr}
use Rattle.log_journal.specs.Head.{IsOld}
use Rattle.log_journal.specs.declared.opening.OpenError.{OpenError}
use Rattle.log_journal.specs.declared.opening.OpenError.TheVariants.{OldVersion}
use Rattle.office_log.specs.Scheme.{old_header}

-- so no file is told to be of one
pub never_old : {T D : Type 0} (file : List ℕ) (r : Result T (OpenError × D)) → IfErr r (λ e. e.0 ≡ OldVersion → IsOld old_header file)
    → IfErr r (λ e. e.0 ≡ OldVersion → ⊥)
never_old file (Ok v) is = tt
never_old file (Err e) is = λ old. let starts = (is old).starts in let none = starts.1 in let bad : ⊥ = cc in bad
