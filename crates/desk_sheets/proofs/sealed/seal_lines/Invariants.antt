use Rattle.std.proofs.Common.{◌≡◌, take}
use Rattle.std.specs.List.{concat}
use Rattle.log_rules.specs.Ruled.{history_of, scheme_of}
use Rattle.desk_sheets.specs.Sheets.{list_seal, seal_lines}
use Rattle.desk_sheets.proofs.sealed.seal_lines.Given as goal

abbrev pub invariant-loop-index : goal.invariant-loop-index
invariant-loop-index g l =
    (l.seal.bytes ≡ list_seal (scheme_of g.R.OfficeRules.ruling) (history_of (take l.index l.filings)))
    × (l.out.items ≡ concat (seal_lines (scheme_of g.R.OfficeRules.ruling) (history_of (take l.index l.filings))))
