-- What the figures of a worksheet of a withdrawal come to. Own.
use Rattle.std.specs.Prelude.{◌≡◌, ℕ, ◌+◌, ◌-◌, ◌*◌, min, List, sum, slice_index}
use Rattle.aid_types.specs.Nearest.{half_up}
use Rattle.aid_types.specs.declared.number.Key.{Key}
use Rattle.aid_filings.specs.declared.filing.Filing.{Filing}
use Rattle.aid_filings.specs.declared.filing.WithdrawFacts.{WithdrawFacts}
use Rattle.office_history.specs.Net.{is_cell, net_at, paid_after, repaid, sheet, withdrawn_cell}
use Rattle.law_r2t4.specs.declared.Lines.{Lines}

-- O, over all programs, is the lesser of K and N, and Q is the rest of K (34 CFR 668.22(g), (h))
pub record IsSplit (l : Lines) (charges : ℕ) : Type 0 where
  pub school : sum l.returned ≡ min l.unearned (half_up (charges * (1000 - l.percent)) 1000)
  pub student : sum l.laid ≡ l.unearned - sum l.returned

-- of a program `net now`, O and `repaid since` are E and `paid since`
abbrev pub IsEven : List Filing → List Filing → Key → WithdrawFacts → ℕ → Type 0
IsEven past now key w program =
    net_at now (withdrawn_cell key w program) + slice_index (sheet past key w).returned program + repaid now (is_cell (withdrawn_cell key w program))
    ≡ net_at past (withdrawn_cell key w program) + paid_after now (is_cell (withdrawn_cell key w program))
