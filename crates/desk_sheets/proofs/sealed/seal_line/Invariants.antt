use Rattle.std.proofs.Common.{◌≡◌, take}
use Rattle.log_rules.specs.Ruled.{history_of, scheme_of}
use Rattle.desk_sheets.specs.Sheets.{list_seal}
use Rattle.desk_sheets.proofs.sealed.seal_line.Given as goal

abbrev pub invariant-loop-filed : goal.invariant-loop-filed
invariant-loop-filed g l = l.seal.bytes ≡ list_seal (scheme_of g.R.OfficeRules.ruling) (history_of (take l.filed-index l.filings))
