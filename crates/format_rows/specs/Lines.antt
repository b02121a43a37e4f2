-- The lines of a row that is no filing, of one that is, of a text, and of a filing that is refused. Own format.
use Rattle.std.specs.Prelude.{ℕ, List, ◌++◌, codes, decimal}
use Rattle.aid_types.specs.declared.award.Refusal.{Refusal}
use Rattle.format_rows.specs.Causes.{number_of}
use Rattle.format_rows.specs.declared.error.RowError.{RowError}

-- ROW error FIELD CAUSE
abbrev pub error_line : RowError → List ℕ
error_line error = decimal error.row ++ codes " error " ++ decimal error.field ++ codes " " ++ decimal (number_of error.cause) ++ codes "\n"

-- ROW fine
abbrev pub fine_line : ℕ → List ℕ
fine_line row = decimal row ++ codes " fine\n"

-- rows ROWS errors ERRORS
abbrev pub tally_line : ℕ → ℕ → List ℕ
tally_line rows errors = codes "rows " ++ decimal rows ++ codes " errors " ++ decimal errors ++ codes "\n"

-- ROW FRONT refused RULE KEPT BOUND
abbrev pub refused_text : ℕ → ℕ → Refusal → List ℕ
refused_text row front refusal =
    decimal row ++ codes " " ++ decimal front ++ codes " refused " ++ decimal refusal.rule ++ codes " " ++ decimal refusal.kept ++ codes " " ++ decimal refusal.bound ++ codes "\n"
