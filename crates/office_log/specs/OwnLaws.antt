-- The filing that an ask may add is that which is to be filed.
use Rattle.std.proofs.Common.{◌≡◌, refl, Bool, true, false, List, Some, None}
use Rattle.std.specs.Prelude.{is_some, if◌then◌else◌, Option}
use Rattle.aid_filings.specs.declared.filing.Filing.{Filing}
use Rattle.aid_filings.specs.declared.reply.Operation.{Operation}
use Rattle.aid_filings.specs.declared.reply.Operation.TheVariants.{File, Quote, Standing}
use Rattle.office_history.specs.Answer.{answer_to, is_admit}
use Rattle.office_log.specs.Submits.{filing_added, filing_asked}

pub own_added : (past : List Filing) (operation : Operation) (filing : Filing) → filing_added past operation ≡ Some filing → filing_asked operation ≡ Some filing
own_added past operation filing is = go (is_admit (answer_to past operation)) is
  where
    go : (b : Bool) → (if b then filing_asked operation else None) ≡ Some filing → filing_asked operation ≡ Some filing
    go true same = same
    go false same = absurd (let bad : ⊥ = cc in bad)

pub adds_added : (past : List Filing) (operation : Operation) → is_admit (answer_to past operation) ≡ is_some (filing_added past operation)
adds_added past (File filing) = go (is_admit (answer_to past (File filing)))
  where
    go : (b : Bool) → b ≡ is_some (if b then Some filing else None)
    go true = refl
    go false = refl
adds_added past (Quote school student year term) = refl
adds_added past (Standing student year) = refl
