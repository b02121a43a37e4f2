-- The net of a program, as the row of a place tells it.
use Rattle.std.proofs.Common.{◌≡◌, ℕ, ◌-◌, List, ap, ◌∙◌}
use Rattle.std.specs.Prelude.{slice_index}
use Rattle.aid_types.specs.Programs.{rank}
use Rattle.aid_types.specs.declared.number.Program.{Program}
use Rattle.aid_filings.specs.declared.filing.Filing.{Filing}
use Rattle.office_history.specs.Net.{cell_at, is_cell, net_at, paid, taken}
use Rattle.office_history.proofs.Sixes.{six-rank}
use Rattle.office_history.specs.Rows.{place_row}
use Rattle.office_history.specs.declared.rows.PlaceRow.{PlaceRow}

abbrev net_in : PlaceRow → ℕ → ℕ
net_in row p = slice_index row.account.paid p - slice_index row.account.taken p

pub net_told : (past : List Filing) (school student year term : ℕ) (program : Program) (row : PlaceRow) → row ≡ place_row past school student year term →
    slice_index row.account.paid (rank program) - slice_index row.account.taken (rank program) ≡ net_at past (cell_at school student year term (rank program))
net_told past school student year term program row told =
    ap (λ (r : PlaceRow). net_in r (rank program)) told
    ∙ (λ i. six-rank (λ p. paid past (is_cell (cell_at school student year term p))) program i
    - six-rank (λ p. taken past (is_cell (cell_at school student year term p))) program i)
