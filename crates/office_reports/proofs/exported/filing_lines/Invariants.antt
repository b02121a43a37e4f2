use Rattle.std.proofs.Common.{◌≡◌, map, reverse, take}
use Rattle.std.specs.List.{concat}
use Rattle.office_export.specs.Lines.{payload_line}
use Rattle.office_export.specs.Seals.{payloads}
use Rattle.office_reports.proofs.exported.filing_lines.Given as goal

abbrev pub invariant-loop-index : goal.invariant-loop-index
invariant-loop-index l = l.out.items ≡ concat (map payload_line (reverse (payloads (reverse (take l.index l.filings)) (reverse (take l.index l.stamps)))))
